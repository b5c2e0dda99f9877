-- Strings in quotes.
use Rattle.std.proofs.Common.{◌≡◌, ◌<◌, ◌+◌, ℕ, suc, Bool, true, false, cond, eqb, List, [], ◌∷◌, ◌++◌, length, get_or, take, drop, Option, Some, None, arith, refl, sym, ap, ◌∙◌, subst, length-append, append_assoc, append-nil, eq-eqb, drop-cons, add-one}
use Rattle.std.specs.Prelude.{option_map}
use Rattle.std.specs.Str.{IsUtf8}
use Rattle.std.proofs.lemmas.Str.{IsUtf8-append, IsUtf8-take, IsUtf8-drop, IsUtf8-from_ascii, IsCharBoundary-before_ascii, IsCharBoundary-after_ascii}
use Rattle.std.proofs.lemmas.Str.Ascii.{IsAscii-cons, IsAscii-nil}
use Rattle.std.proofs.lemmas.Bool.{false≢true}
use Rattle.std.proofs.lemmas.Bool.Decides.{nat_tests}
use Rattle.std.proofs.lemmas.List.{take_more, take_at, drop_at}
use Rattle.cql_values.specs.Literals.{doubled, quoted, content_of, unquoted}

pub by_bool : {P : Type 0} (b : Bool) → (b ≡ true → P) → (b ≡ false → P) → P
by_bool true p q = p refl
by_bool false p q = q refl

pub cond_true : {A : Type 0} (b : Bool) (x y : A) → b ≡ true → cond b x y ≡ x
cond_true b x y e = ap (λ (t : Bool). cond t x y) e

pub cond_false : {A : Type 0} (b : Bool) (x y : A) → b ≡ false → cond b x y ≡ y
cond_false b x y e = ap (λ (t : Bool). cond t x y) e

pub is_quote : (c : ℕ) → eqb c 39 ≡ true → c ≡ 39
is_quote c e = grind (arith, nat_tests)

-- one byte, doubled where it is a quote
abbrev pub doubled_byte : ℕ → List ℕ
doubled_byte c = cond (eqb c 39) (39 ∷ 39 ∷ []) (c ∷ [])

pub doubled-cons : (c : ℕ) (cs : List ℕ) → doubled (c ∷ cs) ≡ doubled_byte c ++ doubled cs
doubled-cons c cs = go (eqb c 39)
  where
    go : (b : Bool) → cond b (39 ∷ 39 ∷ doubled cs) (c ∷ doubled cs) ≡ cond b (39 ∷ 39 ∷ []) (c ∷ []) ++ doubled cs
    go true = refl
    go false = refl

pub doubled-append : (xs ys : List ℕ) → doubled (xs ++ ys) ≡ doubled xs ++ doubled ys
doubled-append [] ys = refl
doubled-append (c ∷ cs) ys =
    doubled-cons c (cs ++ ys)
    ∙ ap (λ (l : List ℕ). doubled_byte c ++ l) (doubled-append cs ys)
    ∙ sym (append_assoc (doubled_byte c) (doubled cs) (doubled ys))
    ∙ ap (λ (l : List ℕ). l ++ doubled ys) (sym (doubled-cons c cs))

-- ---- a quote is ASCII, so a text keeps its characters

at_front : (p : List ℕ) (c : ℕ) (r : List ℕ) → get_or (p ++ (c ∷ r)) (length p) 0 ≡ c
at_front [] c r = refl
at_front (x ∷ xs) c r = at_front xs c r

one_quote : IsUtf8 (39 ∷ [])
one_quote = IsUtf8-from_ascii (39 ∷ []) (IsAscii-cons 39 [] (omega arith) IsAscii-nil)

front_utf8 : (p r : List ℕ) → IsUtf8 (p ++ (39 ∷ r)) → IsUtf8 p
front_utf8 p r u =
    let text = p ++ (39 ∷ r) in
    let at : get_or text (length p) 0 ≡ 39 = at_front p 39 r in
    let len = length-append p (39 ∷ r) in
    subst IsUtf8 (take_at p (39 ∷ r) (length p) refl)
    (IsUtf8-take text (length p) u (IsCharBoundary-before_ascii text (length p) (omega arith) (omega arith)))

rest_utf8 : (p r : List ℕ) → IsUtf8 (p ++ (39 ∷ r)) → IsUtf8 r
rest_utf8 p r u =
    let text = p ++ (39 ∷ r) in
    let at : get_or text (length p) 0 ≡ 39 = at_front p 39 r in
    let len = length-append p (39 ∷ r) in
    let regrouped : text ≡ (p ++ (39 ∷ [])) ++ r = sym (append_assoc p (39 ∷ []) r) in
    let long : length (p ++ (39 ∷ [])) ≡ length p + 1 = length-append p (39 ∷ []) in
    subst IsUtf8 (ap (drop (length p + 1)) regrouped ∙ drop_at (p ++ (39 ∷ [])) r (length p + 1) long)
    (IsUtf8-drop text (length p + 1) u (IsCharBoundary-after_ascii text (length p) u (omega arith) (omega arith)))

snoc : (p : List ℕ) (c : ℕ) (r : List ℕ) → p ++ (c ∷ r) ≡ (p ++ (c ∷ [])) ++ r
snoc p c r = sym (append_assoc p (c ∷ []) r)

pub utf8-doubled : (p t : List ℕ) → IsUtf8 (p ++ t) → IsUtf8 (p ++ doubled t)
utf8-doubled p [] u = u
utf8-doubled p (c ∷ cs) u =
    by_bool (eqb c 39)
    (λ e.
    let v : IsUtf8 (p ++ (39 ∷ cs)) = subst (λ (x : ℕ). IsUtf8 (p ++ (x ∷ cs))) (is_quote c e) u in
    subst (λ (l : List ℕ). IsUtf8 (p ++ l)) (sym (cond_true (eqb c 39) (39 ∷ 39 ∷ doubled cs) (c ∷ doubled cs) e))
    (IsUtf8-append p (39 ∷ 39 ∷ doubled cs) (front_utf8 p cs v)
    (IsUtf8-append (39 ∷ []) (39 ∷ doubled cs) one_quote (IsUtf8-append (39 ∷ []) (doubled cs) one_quote (utf8-doubled [] cs (rest_utf8 p cs v))))))
    (λ e.
    subst (λ (l : List ℕ). IsUtf8 (p ++ l)) (sym (cond_false (eqb c 39) (39 ∷ 39 ∷ doubled cs) (c ∷ doubled cs) e))
    (subst IsUtf8 (sym (snoc p c (doubled cs))) (utf8-doubled (p ++ (c ∷ [])) cs (subst IsUtf8 (snoc p c cs) u))))

pub utf8-undoubled : (p t : List ℕ) → IsUtf8 (p ++ doubled t) → IsUtf8 (p ++ t)
utf8-undoubled p [] u = u
utf8-undoubled p (c ∷ cs) u =
    by_bool (eqb c 39)
    (λ e.
    let v : IsUtf8 (p ++ (39 ∷ 39 ∷ doubled cs)) = subst (λ (l : List ℕ). IsUtf8 (p ++ l)) (cond_true (eqb c 39) (39 ∷ 39 ∷ doubled cs) (c ∷ doubled cs) e) u in
    subst (λ (x : ℕ). IsUtf8 (p ++ (x ∷ cs))) (sym (is_quote c e))
    (IsUtf8-append p (39 ∷ cs) (front_utf8 p (39 ∷ doubled cs) v)
    (IsUtf8-append (39 ∷ []) cs one_quote (utf8-undoubled [] cs (rest_utf8 [] (doubled cs) (rest_utf8 p (39 ∷ doubled cs) v))))))
    (λ e.
    let v : IsUtf8 (p ++ (c ∷ doubled cs)) = subst (λ (l : List ℕ). IsUtf8 (p ++ l)) (cond_false (eqb c 39) (39 ∷ 39 ∷ doubled cs) (c ∷ doubled cs) e) u in
    subst IsUtf8 (sym (snoc p c cs)) (utf8-undoubled (p ++ (c ∷ [])) cs (subst IsUtf8 (snoc p c (doubled cs)) v)))

pub utf8-quoted : (t : List ℕ) → IsUtf8 t → IsUtf8 (quoted t)
utf8-quoted t u = IsUtf8-append (39 ∷ []) (doubled t ++ (39 ∷ [])) one_quote (IsUtf8-append (doubled t) (39 ∷ []) (utf8-doubled [] t u) one_quote)

pub utf8-unquoted : (t : List ℕ) → IsUtf8 (quoted t) → IsUtf8 t
utf8-unquoted t u = utf8-undoubled [] t (front_utf8 (doubled t) [] (rest_utf8 [] (doubled t ++ (39 ∷ [])) u))

-- ---- reading

some_same : {A : Type 0} {x y : A} → Some x ≡ Some y → x ≡ y
some_same h = cc

mapped_some : (f : List ℕ → List ℕ) (o : Option (List ℕ)) (t : List ℕ) → option_map f o ≡ Some t → (s : List ℕ) × (o ≡ Some s) × (f s ≡ t)
mapped_some f None t h = absurd (cc)
mapped_some f (Some s) t h = (s, refl, some_same h)

abbrev pending : Bool → List ℕ
pending false = []
pending true = 39 ∷ []

pub content_of-sound : (flag : Bool) (bs t : List ℕ) → content_of flag bs ≡ Some t → pending flag ++ bs ≡ doubled t ++ (39 ∷ [])
content_of-sound false [] t h = absurd (cc)
content_of-sound true [] t h = ap (λ (l : List ℕ). doubled l ++ (39 ∷ [])) (some_same h)
content_of-sound false (c ∷ cs) t h =
    by_bool (eqb c 39)
    (λ e. ap (λ (x : ℕ). x ∷ cs) (is_quote c e) ∙ content_of-sound true cs t (sym (cond_true (eqb c 39) (content_of true cs) (option_map (λ (l : List ℕ). c ∷ l) (content_of false cs)) e) ∙ h))
    (λ e.
    let m = mapped_some (λ (l : List ℕ). c ∷ l) (content_of false cs) t (sym (cond_false (eqb c 39) (content_of true cs) (option_map (λ (l : List ℕ). c ∷ l) (content_of false cs)) e) ∙ h) in
    ap (λ (l : List ℕ). c ∷ l) (content_of-sound false cs m.0 m.1)
    ∙ ap (λ (l : List ℕ). l ++ (39 ∷ [])) (sym (cond_false (eqb c 39) (39 ∷ 39 ∷ doubled m.0) (c ∷ doubled m.0) e))
    ∙ ap (λ (l : List ℕ). doubled l ++ (39 ∷ [])) m.2)
content_of-sound true (c ∷ cs) t h =
    by_bool (eqb c 39)
    (λ e.
    let m = mapped_some (λ (l : List ℕ). 39 ∷ l) (content_of false cs) t (sym (cond_true (eqb c 39) (option_map (λ (l : List ℕ). 39 ∷ l) (content_of false cs)) None e) ∙ h) in
    ap (λ (x : ℕ). 39 ∷ x ∷ cs) (is_quote c e)
    ∙ ap (λ (l : List ℕ). 39 ∷ 39 ∷ l) (content_of-sound false cs m.0 m.1)
    ∙ ap (λ (l : List ℕ). doubled l ++ (39 ∷ [])) m.2)
    (λ e. absurd (cc (sym (cond_false (eqb c 39) (option_map (λ (l : List ℕ). 39 ∷ l) (content_of false cs)) None e) ∙ h)))

pub content_of-doubled : (t : List ℕ) → content_of false (doubled t ++ (39 ∷ [])) ≡ Some t
content_of-doubled [] = refl
content_of-doubled (c ∷ cs) =
    by_bool (eqb c 39)
    (λ e.
    ap (λ (l : List ℕ). content_of false (l ++ (39 ∷ []))) (cond_true (eqb c 39) (39 ∷ 39 ∷ doubled cs) (c ∷ doubled cs) e)
    ∙ ap (option_map (λ (l : List ℕ). 39 ∷ l)) (content_of-doubled cs)
    ∙ ap (λ (x : ℕ). Some (x ∷ cs)) (sym (is_quote c e)))
    (λ e.
    ap (λ (l : List ℕ). content_of false (l ++ (39 ∷ []))) (cond_false (eqb c 39) (39 ∷ 39 ∷ doubled cs) (c ∷ doubled cs) e)
    ∙ cond_false (eqb c 39) (content_of true (doubled cs ++ (39 ∷ []))) (option_map (λ (l : List ℕ). c ∷ l) (content_of false (doubled cs ++ (39 ∷ [])))) e
    ∙ ap (option_map (λ (l : List ℕ). c ∷ l)) (content_of-doubled cs))

pub unquoted-quoted : (t : List ℕ) → unquoted (quoted t) ≡ Some t
unquoted-quoted t = content_of-doubled t

pub unquoted-sound : (text t : List ℕ) → unquoted text ≡ Some t → text ≡ quoted t
unquoted-sound [] t h = absurd (cc)
unquoted-sound (c ∷ cs) t h = go (eqb c 39) refl h
  where
    go : (b : Bool) → eqb c 39 ≡ b → cond b (content_of false cs) None ≡ Some t → c ∷ cs ≡ quoted t
    go true e g =
        ap (λ (x : ℕ). x ∷ cs) (is_quote c e) ∙ ap (λ (l : List ℕ). 39 ∷ l) (content_of-sound false cs t g)
    go false e g = absurd (cc)

-- one more byte of a text
pub doubled_more : (bs : List ℕ) (i c : ℕ) → i < length bs → c ≡ get_or bs i 0 → doubled (take (i + 1) bs) ≡ doubled (take i bs) ++ doubled_byte c
doubled_more bs i c l e =
    ap doubled (take_more bs i 0 l)
    ∙ doubled-append (take i bs) (get_or bs i 0 ∷ [])
    ∙ ap (λ (x : ℕ). doubled (take i bs) ++ doubled (x ∷ [])) (sym e)
    ∙ ap (λ (l : List ℕ). doubled (take i bs) ++ l) (doubled-cons c [] ∙ append-nil (doubled_byte c))

pub quote_more : (bs old mid new : List ℕ) (i : ℕ) → i < length bs → old ≡ 39 ∷ doubled (take i bs) → get_or bs i 0 ≡ 39
    → mid ≡ old ++ (39 ∷ []) → new ≡ mid ++ (get_or bs i 0 ∷ []) → new ≡ 39 ∷ doubled (take (i + 1) bs)
quote_more bs old mid new i l was is_39 at_mid at_new =
    at_new
    ∙ ap (λ (xs : List ℕ). xs ++ (get_or bs i 0 ∷ [])) (at_mid ∙ ap (λ (xs : List ℕ). xs ++ (39 ∷ [])) was)
    ∙ append_assoc (39 ∷ doubled (take i bs)) (39 ∷ []) (get_or bs i 0 ∷ [])
    ∙ ap (λ (xs : List ℕ). 39 ∷ (doubled (take i bs) ++ xs)) (ap (λ (x : ℕ). 39 ∷ x ∷ []) is_39 ∙ sym (cond_true (eqb (get_or bs i 0) 39) (39 ∷ 39 ∷ []) (get_or bs i 0 ∷ []) (eq-eqb _ _ is_39)))
    ∙ ap (λ (xs : List ℕ). 39 ∷ xs) (sym (doubled_more bs i (get_or bs i 0) l refl))

pub plain_more : (bs old mid new : List ℕ) (i : ℕ) → i < length bs → old ≡ 39 ∷ doubled (take i bs) → (get_or bs i 0 ≡ 39 → ⊥)
    → mid ≡ old → new ≡ mid ++ (get_or bs i 0 ∷ []) → new ≡ 39 ∷ doubled (take (i + 1) bs)
plain_more bs old mid new i l was other at_mid at_new =
    let differs : eqb (get_or bs i 0) 39 ≡ false = grind (arith, nat_tests) in
    at_new
    ∙ ap (λ (xs : List ℕ). xs ++ (get_or bs i 0 ∷ [])) (at_mid ∙ was)
    ∙ ap (λ (xs : List ℕ). 39 ∷ (doubled (take i bs) ++ xs)) (sym (cond_false (eqb (get_or bs i 0) 39) (39 ∷ 39 ∷ []) (get_or bs i 0 ∷ []) differs))
    ∙ ap (λ (xs : List ℕ). 39 ∷ xs) (sym (doubled_more bs i (get_or bs i 0) l refl))

-- ---- one step of reading a string

pub step_none : (bs : List ℕ) (i c : ℕ) (content : List ℕ) (all : Option (List ℕ)) → i < length bs → c ≡ get_or bs i 0 → (c ≡ 39 → ⊥)
    → option_map (λ (rest : List ℕ). content ++ rest) (content_of true (drop i bs)) ≡ all → None ≡ all
step_none bs i c content all l at other is =
    let differs : eqb (get_or bs i 0) 39 ≡ false = grind (arith, nat_tests) in
    sym (ap (option_map (λ (rest : List ℕ). content ++ rest))
    (ap (content_of true) (drop-cons bs i 0 l) ∙ cond_false (eqb (get_or bs i 0) 39) _ None differs)) ∙ is

pub quote_step : (bs content : List ℕ) (flag : Bool) (i : ℕ) (all : Option (List ℕ)) → i < length bs → get_or bs i 0 ≡ 39 → flag ≡ false
    → option_map (λ (rest : List ℕ). content ++ rest) (content_of flag (drop i bs)) ≡ all
    → option_map (λ (rest : List ℕ). content ++ rest) (content_of true (drop (i + 1) bs)) ≡ all
quote_step bs content true i all l at off is = absurd (false≢true (sym off))
quote_step bs content false i all l at off is =
    ap (λ (j : ℕ). option_map (λ (rest : List ℕ). content ++ rest) (content_of true (drop j bs))) (add-one i)
    ∙ sym (ap (option_map (λ (rest : List ℕ). content ++ rest)) (ap (content_of false) (drop-cons bs i 0 l) ∙ cond_true (eqb (get_or bs i 0) 39) _ _ (eq-eqb _ _ at)))
    ∙ is

-- a byte in front of what is found
mapped_cons : (content : List ℕ) (c : ℕ) (o : Option (List ℕ))
    → option_map (λ (rest : List ℕ). (content ++ (c ∷ [])) ++ rest) o ≡ option_map (λ (rest : List ℕ). content ++ rest) (option_map (λ (rest : List ℕ). c ∷ rest) o)
mapped_cons content c None = refl
mapped_cons content c (Some rest) = ap Some (append_assoc content (c ∷ []) rest)

pub push_step : (bs content new : List ℕ) (flag : Bool) (i : ℕ) (all : Option (List ℕ)) → i < length bs
    → (flag ≡ true → get_or bs i 0 ≡ 39) → (flag ≡ false → get_or bs i 0 ≡ 39 → ⊥)
    → new ≡ content ++ (get_or bs i 0 ∷ [])
    → option_map (λ (rest : List ℕ). content ++ rest) (content_of flag (drop i bs)) ≡ all
    → option_map (λ (rest : List ℕ). new ++ rest) (content_of false (drop (i + 1) bs)) ≡ all
push_step bs content new true i all l quoted plain at is =
    let c = get_or bs i 0 in
    let is_39 : c ≡ 39 = quoted refl in
    let rest = content_of false (drop (suc i) bs) in
    let found : content_of true (drop i bs) ≡ option_map (λ (t : List ℕ). c ∷ t) rest =
    ap (content_of true) (drop-cons bs i 0 l)
    ∙ cond_true (eqb c 39) (option_map (λ (t : List ℕ). 39 ∷ t) rest) None (eq-eqb _ _ is_39)
    ∙ ap (λ (x : ℕ). option_map (λ (t : List ℕ). x ∷ t) rest) (sym is_39) in
    ap (λ (j : ℕ). option_map (λ (t : List ℕ). new ++ t) (content_of false (drop j bs))) (add-one i)
    ∙ ap (λ (xs : List ℕ). option_map (λ (t : List ℕ). xs ++ t) rest) at
    ∙ mapped_cons content c rest
    ∙ ap (option_map (λ (t : List ℕ). content ++ t)) (sym found)
    ∙ is
push_step bs content new false i all l quoted plain at is =
    let c = get_or bs i 0 in
    let rest = content_of false (drop (suc i) bs) in
    let other : c ≡ 39 → ⊥ = plain refl in
    let differs : eqb c 39 ≡ false = grind (arith, nat_tests) in
    let found : content_of false (drop i bs) ≡ option_map (λ (t : List ℕ). c ∷ t) rest =
    ap (content_of false) (drop-cons bs i 0 l) ∙ cond_false (eqb c 39) (content_of true (drop (suc i) bs)) (option_map (λ (t : List ℕ). c ∷ t) rest) differs in
    ap (λ (j : ℕ). option_map (λ (t : List ℕ). new ++ t) (content_of false (drop j bs))) (add-one i)
    ∙ ap (λ (xs : List ℕ). option_map (λ (t : List ℕ). xs ++ t) rest) at
    ∙ mapped_cons content c rest
    ∙ ap (option_map (λ (t : List ℕ). content ++ t)) (sym found)
    ∙ is
