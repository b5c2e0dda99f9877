-- Runs of a class, pairs of digits, texts in quotes and comments, at the front of a text.
use Rattle.std.proofs.Common.{◌≡◌, ◌<◌, ◌≤◌, ◌+◌, ◌-◌, ◌%◌, ℕ, zero, suc, Bool, true, false, not, cond, eqb, ◌&&◌, List, [], ◌∷◌, ◌++◌, length, Option, Some, None, arith, refl, sym, ap, ◌∙◌, subst, eq-eqb, eqb-true, nat_lt, ltb-true, ltb-false, get_or}
use Rattle.std.specs.Prelude.{option_map}
use Rattle.std.specs.List.{list_all}
use Rattle.std.specs.Char.{is_ascii_hexdigit}
use Rattle.std.proofs.lemmas.Bool.{false≢true, and_from, and_parts, cond-true, cond-false}
use Rattle.std.proofs.lemmas.List.{get_or_append_left}
use Rattle.cql_tokens.specs.Words.{doubled, ArePairs, fits, fits_shape, uuid_shape}
use Rattle.cql_tokens.specs.Tokens.{has_no_end}
use Rattle.cql_tokens.specs.Scanning.{is_of, run, quoted_len, comment_len, front_fits}
use Rattle.cql_tokens.specs.declared.words.Class.{Class}
use Rattle.cql_tokens.specs.declared.words.Class.TheVariants as classes

pub by_bool : {P : Type 0} (b : Bool) → (b ≡ true → P) → (b ≡ false → P) → P
by_bool true p q = p refl
by_bool false p q = q refl

-- ---- runs

abbrev pub StopsRun : Class → List ℕ → Type 0
StopsRun class [] = Unit {0}
StopsRun class (c ∷ cs) = is_of class c ≡ false

pub record Run (class : Class) (text : List ℕ) : Type 0 where
  pub word : List ℕ
  pub rest : List ℕ
  pub split : text ≡ word ++ rest
  pub long : length word ≡ run class text
  pub all : list_all (is_of class) word ≡ true
  pub stops : StopsRun class rest

pub run_of : (class : Class) (text : List ℕ) → Run class text
run_of class [] = record { word = []; rest = []; split = refl; long = refl; all = refl; stops = tt }
run_of class (c ∷ cs) =
    by_bool (is_of class c)
    (λ e.
    let more = run_of class cs in
    record {
      word = c ∷ more.word;
      rest = more.rest;
      split = ap (λ (l : List ℕ). c ∷ l) more.split;
      long = ap suc more.long ∙ sym (cond-true (is_of class c) (suc (run class cs)) 0 e);
      all = and_from (is_of class c) (list_all (is_of class) more.word) e more.all;
      stops = more.stops;
    })
    (λ e. record { word = []; rest = c ∷ cs; split = refl; long = sym (cond-false (is_of class c) (suc (run class cs)) 0 e); all = refl; stops = e })

-- a run that goes on with whatever follows
pub run_longest : (class : Class) (word rest : List ℕ) → list_all (is_of class) word ≡ true → length word ≤ run class (word ++ rest)
run_longest class [] rest all = omega arith
run_longest class (c ∷ cs) rest all =
    let parts = and_parts (is_of class c) (list_all (is_of class) cs) all in
    let more = run_longest class cs rest parts.1 in
    let is : cond (is_of class c) (suc (run class (cs ++ rest))) 0 ≡ suc (run class (cs ++ rest)) = cond-true (is_of class c) (suc (run class (cs ++ rest))) 0 parts.0 in
    omega (arith, more, is)

pub run_exact : (class : Class) (word rest : List ℕ) → list_all (is_of class) word ≡ true → StopsRun class rest → run class (word ++ rest) ≡ length word
run_exact class [] [] all stops = refl
run_exact class [] (c ∷ cs) all stops = cond-false (is_of class c) (suc (run class cs)) 0 stops
run_exact class (c ∷ cs) rest all stops =
    let parts = and_parts (is_of class c) (list_all (is_of class) cs) all in
    cond-true (is_of class c) (suc (run class (cs ++ rest))) 0 parts.0 ∙ ap suc (run_exact class cs rest parts.1 stops)

-- ---- pairs of hexadecimal digits

abbrev pub hex_run : List ℕ → ℕ
hex_run text = run classes.Hexadecimal text

abbrev pub paired : ℕ → ℕ
paired n = n - n % 2

pub record Pairs (text : List ℕ) : Type 0 where
  pub word : List ℕ
  pub rest : List ℕ
  pub split : text ≡ word ++ rest
  pub long : length word ≡ paired (hex_run text)
  pub are_pairs : ArePairs word

no_pairs : (text : List ℕ) → hex_run text < 2 → Pairs text
no_pairs text few = record { word = []; rest = text; split = refl; long = omega (arith, few); are_pairs = tt }

pub pairs_of : (text : List ℕ) → Pairs text
pairs_of [] = no_pairs [] (omega arith)
pairs_of (c ∷ []) =
    by_bool (is_ascii_hexdigit c)
    (λ e. let is = cond-true {A = ℕ} (is_ascii_hexdigit c) 1 0 e in no_pairs (c ∷ []) (omega (arith, is)))
    (λ e. let is = cond-false {A = ℕ} (is_ascii_hexdigit c) 1 0 e in no_pairs (c ∷ []) (omega (arith, is)))
pairs_of (c ∷ d ∷ cs) =
    by_bool (is_ascii_hexdigit c)
    (λ e.
    let is = cond-true (is_ascii_hexdigit c) (suc (hex_run (d ∷ cs))) 0 e in
    by_bool (is_ascii_hexdigit d)
    (λ f.
    let is_too = cond-true (is_ascii_hexdigit d) (suc (hex_run cs)) 0 f in
    let more = pairs_of cs in
    let same : hex_run (c ∷ d ∷ cs) ≡ suc (suc (hex_run cs)) = is ∙ ap suc is_too in
    record {
      word = c ∷ d ∷ more.word;
      rest = more.rest;
      split = ap (λ (l : List ℕ). c ∷ d ∷ l) more.split;
      long = omega (arith, same, more.long);
      are_pairs = (e, f, more.are_pairs);
    })
    (λ f. let is_too = cond-false (is_ascii_hexdigit d) (suc (hex_run cs)) 0 f in no_pairs (c ∷ d ∷ cs) (omega (arith, is, is_too))))
    (λ e. let is = cond-false (is_ascii_hexdigit c) (suc (hex_run (d ∷ cs))) 0 e in no_pairs (c ∷ d ∷ cs) (omega (arith, is)))

pub pairs_longest : (word rest : List ℕ) → ArePairs word → length word ≤ paired (hex_run (word ++ rest))
pairs_longest [] rest pairs = omega arith
pairs_longest (c ∷ []) rest pairs = absurd pairs
pairs_longest (c ∷ d ∷ cs) rest pairs =
    let more = pairs_longest cs rest pairs.2 in
    let is = cond-true (is_ascii_hexdigit c) (suc (hex_run (d ∷ cs ++ rest))) 0 pairs.0 in
    let is_too = cond-true (is_ascii_hexdigit d) (suc (hex_run (cs ++ rest))) 0 pairs.1 in
    omega (arith, more, is, is_too)

-- ---- texts in quotes

abbrev pub BeginsNot : ℕ → List ℕ → Type 0
BeginsNot q [] = Unit {0}
BeginsNot q (c ∷ cs) = eqb c q ≡ false

-- the content with the quote that closes it
abbrev pub closed : ℕ → List ℕ → List ℕ
closed q content = doubled q content ++ q ∷ []

pub record Quoted (q : ℕ) (text : List ℕ) (n : ℕ) : Type 0 where
  pub content : List ℕ
  pub rest : List ℕ
  pub split : text ≡ closed q content ++ rest
  pub long : length (closed q content) ≡ n
  pub ends : BeginsNot q rest

mapped_some : (o : Option ℕ) (n : ℕ) → option_map suc o ≡ Some n → (m : ℕ) × (o ≡ Some m) × (suc m ≡ n)
mapped_some None n h = absurd (cc)
mapped_some (Some m) n h = (m, refl, some_same h)
  where
    some_same : {x y : ℕ} → Some x ≡ Some y → x ≡ y
    some_same h = cc

-- a byte before it
pub quoted_byte : (q c : ℕ) (cs : List ℕ) (m n : ℕ) → eqb c q ≡ false → suc m ≡ n → Quoted q cs m → Quoted q (c ∷ cs) n
quoted_byte q c cs m n e one more =
    let is = cond-false (eqb c q) (q ∷ q ∷ doubled q more.content) (c ∷ doubled q more.content) e in
    record {
      content = c ∷ more.content;
      rest = more.rest;
      split = ap (λ (l : List ℕ). c ∷ l) more.split ∙ ap (λ (l : List ℕ). (l ++ q ∷ []) ++ more.rest) (sym is);
      long = ap (λ (l : List ℕ). length (l ++ q ∷ [])) is ∙ ap suc more.long ∙ one;
      ends = more.ends;
    }

-- two quotes before it
pub quoted_pair : (q c d : ℕ) (cs : List ℕ) (m n : ℕ) → c ≡ q → d ≡ q → suc (suc m) ≡ n → Quoted q cs m → Quoted q (c ∷ d ∷ cs) n
quoted_pair q c d cs m n e f two more =
    let is = cond-true (eqb q q) (q ∷ q ∷ doubled q more.content) (q ∷ doubled q more.content) (eq-eqb q q refl) in
    record {
      content = q ∷ more.content;
      rest = more.rest;
      split = (λ i. e i ∷ f i ∷ more.split i) ∙ ap (λ (l : List ℕ). (l ++ q ∷ []) ++ more.rest) (sym is);
      long = ap (λ (l : List ℕ). length (l ++ q ∷ [])) is ∙ ap (λ (k : ℕ). suc (suc k)) more.long ∙ two;
      ends = more.ends;
    }

-- the quote that closes it
pub quoted_end : (q c : ℕ) (cs : List ℕ) (n : ℕ) → c ≡ q → BeginsNot q cs → 1 ≡ n → Quoted q (c ∷ cs) n
quoted_end q c cs n e ends one = record { content = []; rest = cs; split = ap (λ (x : ℕ). x ∷ cs) e; long = one; ends = ends }

some_is : {x y : ℕ} → Some x ≡ Some y → x ≡ y
some_is h = cc

pub quoted_of : (q : ℕ) (text : List ℕ) (n : ℕ) → quoted_len q false text ≡ Some n → Quoted q text n
quoted_of q [] n h = absurd (cc)
quoted_of q (c ∷ []) n h =
    let m = mapped_some (quoted_len q (eqb c q) []) n h in
    by_bool (eqb c q)
    (λ e. quoted_end q c [] n (eqb-true c q e) tt (ap suc (some_is (ap (λ (b : Bool). quoted_len q b []) (sym e) ∙ m.1)) ∙ m.2))
    (λ e. let none : None ≡ Some m.0 = ap (λ (b : Bool). quoted_len q b []) (sym e) ∙ m.1 in absurd (cc))
quoted_of q (c ∷ d ∷ cs) n h =
    let m = mapped_some (quoted_len q (eqb c q) (d ∷ cs)) n h in
    by_bool (eqb c q)
    (λ e.
    let behind : cond (eqb d q) (option_map suc (quoted_len q false cs)) (Some 0) ≡ Some m.0 = ap (λ (b : Bool). quoted_len q b (d ∷ cs)) (sym e) ∙ m.1 in
    by_bool (eqb d q)
    (λ f.
    let k = mapped_some (quoted_len q false cs) m.0 (sym (cond-true (eqb d q) (option_map suc (quoted_len q false cs)) (Some 0) f) ∙ behind) in
    quoted_pair q c d cs k.0 n (eqb-true c q e) (eqb-true d q f) (ap suc k.2 ∙ m.2) (quoted_of q cs k.0 k.1))
    (λ f.
    let zero_is : 0 ≡ m.0 = some_is (sym (cond-false (eqb d q) (option_map suc (quoted_len q false cs)) (Some 0) f) ∙ behind) in
    quoted_end q c (d ∷ cs) n (eqb-true c q e) f (ap suc zero_is ∙ m.2)))
    (λ e. quoted_byte q c (d ∷ cs) m.0 n e m.2 (quoted_of q (d ∷ cs) m.0 (ap (λ (b : Bool). quoted_len q b (d ∷ cs)) (sym e) ∙ m.1)))

-- how long it is with what may follow
abbrev pub closed_len : ℕ → List ℕ → List ℕ → Option ℕ
closed_len q content rest = option_map (λ (n : ℕ). length (closed q content) + n) (quoted_len q true rest)

fused : (a : ℕ) (o : Option ℕ) → option_map suc (option_map (λ (n : ℕ). a + n) o) ≡ option_map (λ (n : ℕ). suc a + n) o
fused a None = refl
fused a (Some n) = ap (λ (k : ℕ). Some k) (omega arith)

same_map : (o : Option ℕ) → option_map suc o ≡ option_map (λ (n : ℕ). 1 + n) o
same_map None = refl
same_map (Some n) = ap (λ (k : ℕ). Some k) (omega arith)

pub quoted_found : (q : ℕ) (content rest : List ℕ) → quoted_len q false (closed q content ++ rest) ≡ closed_len q content rest
quoted_found q [] rest = ap (λ (b : Bool). option_map suc (quoted_len q b rest)) (eq-eqb q q refl) ∙ same_map (quoted_len q true rest)
quoted_found q (c ∷ cs) rest =
    let more = quoted_found q cs rest in
    let o = quoted_len q true rest in
    by_bool (eqb c q)
    (λ e.
    let is = cond-true (eqb c q) (q ∷ q ∷ doubled q cs) (c ∷ doubled q cs) e in
    ap (λ (l : List ℕ). quoted_len q false ((l ++ q ∷ []) ++ rest)) is
    ∙ ap (λ (b : Bool). option_map suc (quoted_len q b (q ∷ (closed q cs ++ rest)))) (eq-eqb q q refl)
    ∙ ap (option_map suc) (cond-true (eqb q q) (option_map suc (quoted_len q false (closed q cs ++ rest))) (Some 0) (eq-eqb q q refl))
    ∙ ap (λ (p : Option ℕ). option_map suc (option_map suc p)) more
    ∙ ap (option_map suc) (fused (length (closed q cs)) o)
    ∙ fused (suc (length (closed q cs))) o
    ∙ ap (λ (l : List ℕ). option_map (λ (n : ℕ). length (l ++ q ∷ []) + n) o) (sym is))
    (λ e.
    let is = cond-false (eqb c q) (q ∷ q ∷ doubled q cs) (c ∷ doubled q cs) e in
    ap (λ (l : List ℕ). quoted_len q false ((l ++ q ∷ []) ++ rest)) is
    ∙ ap (λ (b : Bool). option_map suc (quoted_len q b (closed q cs ++ rest))) e
    ∙ ap (option_map suc) more
    ∙ fused (length (closed q cs)) o
    ∙ ap (λ (l : List ℕ). option_map (λ (n : ℕ). length (l ++ q ∷ []) + n) o) (sym is))

-- ---- comments

abbrev pub ended : List ℕ → List ℕ
ended content = content ++ 42 ∷ 47 ∷ []

pub record Comment (text : List ℕ) (n : ℕ) : Type 0 where
  pub content : List ℕ
  pub rest : List ℕ
  pub split : text ≡ content ++ 42 ∷ 47 ∷ rest
  pub long : length content + 2 ≡ n
  pub no_end : has_no_end content ≡ true

abbrev pub pending : Bool → List ℕ → List ℕ
pending true text = 42 ∷ text
pending false text = text

abbrev pub pending_len : Bool → ℕ → ℕ
pending_len true n = suc n
pending_len false n = n

no_star : (c : ℕ) (cs : List ℕ) → eqb c 42 ≡ false → has_no_end cs ≡ true → has_no_end (c ∷ cs) ≡ true
no_star c [] e h = refl
no_star c (d ∷ cs) e h = and_from (not (eqb c 42 && eqb d 47)) (has_no_end (d ∷ cs)) (ap (λ (b : Bool). not (b && eqb d 47)) e) h

no_slash : (c : ℕ) (cs content rest : List ℕ) → eqb c 47 ≡ false → c ∷ cs ≡ content ++ 42 ∷ 47 ∷ rest → has_no_end content ≡ true → has_no_end (42 ∷ content) ≡ true
no_slash c cs [] rest e split h = refl
no_slash c cs (d ∷ ds) rest e split h =
    let first : c ≡ d = cc in
    and_from (not (eqb d 47)) (has_no_end (d ∷ ds)) (ap not (ap (λ (x : ℕ). eqb x 47) (sym first) ∙ e)) h

-- a byte before it
comment_byte : (c : ℕ) (cs : List ℕ) (m n : ℕ) → eqb c 42 ≡ false → suc m ≡ n → Comment cs m → Comment (c ∷ cs) n
comment_byte c cs m n e one more = record {
  content = c ∷ more.content;
  rest = more.rest;
  split = ap (λ (l : List ℕ). c ∷ l) more.split;
  long = omega (arith, more.long, one);
  no_end = no_star c more.content e more.no_end;
}

-- a star before it, where no slash follows
comment_star : (c : ℕ) (cs : List ℕ) (n : ℕ) → eqb c 47 ≡ false → Comment (c ∷ cs) n → Comment (42 ∷ c ∷ cs) (suc n)
comment_star c cs n e more = record {
  content = 42 ∷ more.content;
  rest = more.rest;
  split = ap (λ (l : List ℕ). 42 ∷ l) more.split;
  long = omega (arith, more.long);
  no_end = no_slash c cs more.content more.rest e more.split more.no_end;
}

comment_step : (c : ℕ) (cs : List ℕ) (n : ℕ) → ((b : Bool) (m : ℕ) → comment_len b cs ≡ Some m → Comment (pending b cs) (pending_len b m)) → option_map suc (comment_len (eqb c 42) cs) ≡ Some n → Comment (c ∷ cs) n
comment_step c cs n more h =
    let m = mapped_some (comment_len (eqb c 42) cs) n h in
    by_bool (eqb c 42)
    (λ e.
    let there : Comment (42 ∷ cs) (suc m.0) = more true m.0 (ap (λ (b : Bool). comment_len b cs) (sym e) ∙ m.1) in
    subst (Comment (c ∷ cs)) m.2 (subst (λ (x : ℕ). Comment (x ∷ cs) (suc m.0)) (sym (eqb-true c 42 e)) there))
    (λ e. comment_byte c cs m.0 n e m.2 (more false m.0 (ap (λ (b : Bool). comment_len b cs) (sym e) ∙ m.1)))

pub comment_of : (star : Bool) (text : List ℕ) (n : ℕ) → comment_len star text ≡ Some n → Comment (pending star text) (pending_len star n)
comment_of star [] n h = absurd (cc)
comment_of false (c ∷ cs) n h = comment_step c cs n (λ b m. comment_of b cs m) h
comment_of true (c ∷ cs) n h =
    let rest = option_map suc (comment_len (eqb c 42) cs) in
    by_bool (eqb c 47)
    (λ e.
    let one : 1 ≡ n = some_is (sym (cond-true (eqb c 47) (Some 1) rest e) ∙ h) in
    record { content = []; rest = cs; split = ap (λ (x : ℕ). 42 ∷ x ∷ cs) (eqb-true c 47 e); long = ap suc one; no_end = refl })
    (λ e. comment_star c cs n e (comment_step c cs n (λ b m. comment_of b cs m) (sym (cond-false (eqb c 47) (Some 1) rest e) ∙ h)))

fewer : (c : ℕ) (cs : List ℕ) → has_no_end (c ∷ cs) ≡ true → has_no_end cs ≡ true
fewer c [] h = refl
fewer c (d ∷ cs) h = (and_parts (not (eqb c 42 && eqb d 47)) (has_no_end (d ∷ cs)) h).1

behind_star : (c : ℕ) (cs : List ℕ) → has_no_end (c ∷ cs) ≡ true → eqb c 42 ≡ true → BeginsNot 47 cs
behind_star c [] h e = tt
behind_star c (d ∷ cs) h e = go (eqb c 42) (eqb d 47) e (and_parts (not (eqb c 42 && eqb d 47)) (has_no_end (d ∷ cs)) h).0
  where
    go : (a b : Bool) → a ≡ true → not (a && b) ≡ true → b ≡ false
    go true true e h = absurd (false≢true h)
    go true false e h = refl
    go false b e h = absurd (false≢true e)

pub comment_found : (star : Bool) (content rest : List ℕ) → has_no_end content ≡ true → (star ≡ true → BeginsNot 47 content) → comment_len star (content ++ 42 ∷ 47 ∷ rest) ≡ Some (length content + 2)
comment_found true [] rest h first = refl
comment_found false [] rest h first = refl
comment_found false (c ∷ cs) rest h first =
    ap (option_map suc) (comment_found (eqb c 42) cs rest (fewer c cs h) (behind_star c cs h)) ∙ ap (λ (k : ℕ). Some k) (omega arith)
comment_found true (c ∷ cs) rest h first =
    cond-false (eqb c 47) (Some 1) (option_map suc (comment_len (eqb c 42) (cs ++ 42 ∷ 47 ∷ rest))) (first refl)
    ∙ ap (option_map suc) (comment_found (eqb c 42) cs rest (fewer c cs h) (behind_star c cs h))
    ∙ ap (λ (k : ℕ). Some k) (omega arith)

-- ---- the shape of a uuid

pub record Shaped (shape text : List ℕ) : Type 0 where
  pub word : List ℕ
  pub rest : List ℕ
  pub split : text ≡ word ++ rest
  pub long : length word ≡ length shape
  pub fits_it : fits_shape shape word ≡ true

pub shaped_of : (shape text : List ℕ) → front_fits shape text ≡ true → Shaped shape text
shaped_of [] text h = record { word = []; rest = text; split = refl; long = refl; fits_it = refl }
shaped_of (s ∷ ss) [] h = absurd (false≢true h)
shaped_of (s ∷ ss) (c ∷ cs) h =
    let parts = and_parts (fits s c) (front_fits ss cs) h in
    let more = shaped_of ss cs parts.1 in
    record {
      word = c ∷ more.word;
      rest = more.rest;
      split = ap (λ (l : List ℕ). c ∷ l) more.split;
      long = ap suc more.long;
      fits_it = and_from (fits s c) (fits_shape ss more.word) parts.0 more.fits_it;
    }

pub shape_found : (shape word rest : List ℕ) → fits_shape shape word ≡ true → (front_fits shape (word ++ rest) ≡ true) × (length word ≡ length shape)
shape_found [] [] rest h = (refl, refl)
shape_found [] (c ∷ cs) rest h = absurd (false≢true h)
shape_found (s ∷ ss) [] rest h = absurd (false≢true h)
shape_found (s ∷ ss) (c ∷ cs) rest h =
    let parts = and_parts (fits s c) (fits_shape ss cs) h in
    let more = shape_found ss cs rest parts.1 in
    (and_from (fits s c) (front_fits ss (cs ++ rest)) parts.0 more.0, ap suc more.1)

fits_at : (shape text : List ℕ) (i : ℕ) → front_fits shape text ≡ true → i < length shape → fits (get_or shape i 0) (get_or text i 0) ≡ true
fits_at [] text i h inside = absurd (omega (arith, inside))
fits_at (s ∷ ss) [] i h inside = absurd (false≢true h)
fits_at (s ∷ ss) (c ∷ cs) zero h inside = (and_parts (fits s c) (front_fits ss cs) h).0
fits_at (s ∷ ss) (c ∷ cs) (suc i) h inside = fits_at ss cs i (and_parts (fits s c) (front_fits ss cs) h).1 (omega (arith, inside))

pub all_at : (test : ℕ → Bool) (word : List ℕ) (i : ℕ) → list_all test word ≡ true → i < length word → test (get_or word i 0) ≡ true
all_at test [] i all inside = absurd (omega (arith, inside))
all_at test (c ∷ cs) zero all inside = (and_parts (test c) (list_all test cs) all).0
all_at test (c ∷ cs) (suc i) all inside = all_at test cs i (and_parts (test c) (list_all test cs) all).1 (omega (arith, inside))

-- a run without hyphens ends before the first hyphen of a uuid
pub before_hyphen : (class : Class) (word rest : List ℕ) → front_fits uuid_shape (word ++ rest) ≡ true → list_all (is_of class) word ≡ true → is_of class 45 ≡ false → length word < 36
before_hyphen class word rest h all not_of =
    by_bool (nat_lt 8 (length word))
    (λ e.
    let inside : 8 < length word = ltb-true 8 (length word) e in
    let hyphen : get_or (word ++ rest) 8 0 ≡ 45 = eqb-true (get_or (word ++ rest) 8 0) 45 (fits_at uuid_shape (word ++ rest) 8 h (omega arith)) in
    let same : get_or word 8 0 ≡ 45 = sym (get_or_append_left word rest 0 8 inside) ∙ hyphen in
    absurd (false≢true (sym not_of ∙ ap (is_of class) (sym same) ∙ all_at (is_of class) word 8 all inside)))
    (λ e. let few : length word ≤ 8 = ltb-false 8 (length word) e in omega (arith, few))
