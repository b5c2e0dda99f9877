-- Reading a text whose zeros are escaped.
use Rattle.std.proofs.Common.{◌≡◌, ◌⊎◌, ◌<◌, ℕ, Bool, true, false, cond, eqb, nat_le, ◌&&◌, List, [], ◌∷◌, ◌++◌, Option, Some, None, arith, refl, sym, ap, ◌∙◌, subst, inl, inr, ⊎_elim, eq-eqb, append_assoc, append-nil}
use Rattle.std.proofs.lemmas.Bool.{false≢true}
use Rattle.std.proofs.lemmas.Bool.Decides.{nat_tests}
use Rattle.cql_values.proofs.Words.{eqb_same}
use Rattle.cql_values.proofs.Quotes.{by_bool, cond_true, cond_false}
use Rattle.cql_values.proofs.Utf8.{small_append, small_nil, small_cons}
use Rattle.cql_values.proofs.Run.{run, tails, run-append, none_some, Good, GoodIfAny, good_run, filling, filling_run, small_filling, content_run, run_content}
use Rattle.cql_values.specs.Value.{IsBytes}
use Rattle.cql_values.specs.Order.{escaped, Continues, EndsAllWords}
use Rattle.cql_values.specs.Scan.{IsContent, IsEscapedType, IsEscapedWord, lead, after_byte, pushed, step_of}
use Rattle.cql_values.specs.declared.value.CqlType.{CqlType}
use Rattle.cql_values.specs.declared.value.CqlType.TheVariants as types
use Rattle.cql_values.specs.declared.scan.Expected.{Expected}
use Rattle.cql_values.specs.declared.scan.Expected.TheVariants as expect
use Rattle.cql_values.specs.declared.scan.Move.TheVariants as moves

-- the escaped content, without its end
abbrev pub pieces : List ℕ → List ℕ
pieces [] = []
pieces (c ∷ cs) = cond (eqb c 0) (0 ∷ 255 ∷ pieces cs) (c ∷ pieces cs)

abbrev piece : ℕ → List ℕ
piece c = cond (eqb c 0) (0 ∷ 255 ∷ []) (c ∷ [])

pieces-cons : (c : ℕ) (cs : List ℕ) → pieces (c ∷ cs) ≡ piece c ++ pieces cs
pieces-cons c cs = go (eqb c 0)
  where
    go : (b : Bool) → cond b (0 ∷ 255 ∷ pieces cs) (c ∷ pieces cs) ≡ cond b (0 ∷ 255 ∷ []) (c ∷ []) ++ pieces cs
    go true = refl
    go false = refl

pieces-append : (xs ys : List ℕ) → pieces (xs ++ ys) ≡ pieces xs ++ pieces ys
pieces-append [] ys = refl
pieces-append (c ∷ cs) ys =
    pieces-cons c (cs ++ ys)
    ∙ ap (λ (l : List ℕ). piece c ++ l) (pieces-append cs ys)
    ∙ sym (append_assoc (piece c) (pieces cs) (pieces ys))
    ∙ ap (λ (l : List ℕ). l ++ pieces ys) (sym (pieces-cons c cs))

escaped-cons : (c : ℕ) (cs : List ℕ) → escaped (c ∷ cs) ≡ piece c ++ escaped cs
escaped-cons c cs = go (eqb c 0)
  where
    go : (b : Bool) → cond b (0 ∷ 255 ∷ escaped cs) (c ∷ escaped cs) ≡ cond b (0 ∷ 255 ∷ []) (c ∷ []) ++ escaped cs
    go true = refl
    go false = refl

escaped-append : (xs ys : List ℕ) → escaped (xs ++ ys) ≡ pieces xs ++ escaped ys
escaped-append [] ys = refl
escaped-append (c ∷ cs) ys =
    escaped-cons c (cs ++ ys)
    ∙ ap (λ (l : List ℕ). piece c ++ l) (escaped-append cs ys)
    ∙ sym (append_assoc (piece c) (pieces cs) (escaped ys))
    ∙ ap (λ (l : List ℕ). l ++ escaped ys) (sym (pieces-cons c cs))

escaped-pieces : (xs : List ℕ) → escaped xs ≡ pieces xs ++ (0 ∷ 0 ∷ [])
escaped-pieces xs = ap escaped (sym (append-nil xs)) ∙ escaped-append xs []

-- ---- what begins with pieces

-- the rest of an escaped text
abbrev Rest : List ℕ → List ℕ → List ℕ → Type 0
Rest t u r = (c : List ℕ) × (u ≡ t ++ c) × (r ≡ escaped c)

first_same : (x y : ℕ) (xs ys : List ℕ) → x ∷ xs ≡ y ∷ ys → (x ≡ y) × (xs ≡ ys)
first_same x y xs ys h = ((let p : x ≡ y = cc in p), (let q : xs ≡ ys = cc in q))

zero_of : (c : ℕ) → eqb c 0 ≡ true → c ≡ 0
zero_of c e = eqb_same c 0 e

not_zero : (c : ℕ) → eqb c 0 ≡ false → c ≡ 0 → ⊥
not_zero c e is = false≢true (sym e ∙ eq-eqb c 0 is)

zero_rest : (cs u r : List ℕ) → 0 ∷ 255 ∷ (pieces cs ++ r) ≡ escaped u → (v : List ℕ) × (u ≡ 0 ∷ v) × (pieces cs ++ r ≡ escaped v)
zero_rest cs [] r h = absurd (omega (arith, (first_same 255 0 (pieces cs ++ r) [] (first_same 0 0 (255 ∷ (pieces cs ++ r)) (0 ∷ []) h).1).0))
zero_rest cs (d ∷ ds) r h =
    by_bool (eqb d 0)
    (λ e.
    let g = h ∙ cond_true (eqb d 0) (0 ∷ 255 ∷ escaped ds) (d ∷ escaped ds) e in
    (ds, ap (λ (x : ℕ). x ∷ ds) (zero_of d e), (first_same 255 255 (pieces cs ++ r) (escaped ds) (first_same 0 0 (255 ∷ (pieces cs ++ r)) (255 ∷ escaped ds) g).1).1))
    (λ e.
    let g = h ∙ cond_false (eqb d 0) (0 ∷ 255 ∷ escaped ds) (d ∷ escaped ds) e in
    absurd (not_zero d e (sym (first_same 0 d (255 ∷ (pieces cs ++ r)) (escaped ds) g).0)))

-- an escaped text that begins with a byte other than 0
pub byte_rest : (b : ℕ) (r u : List ℕ) → eqb b 0 ≡ false → b ∷ r ≡ escaped u → (v : List ℕ) × (u ≡ b ∷ v) × (r ≡ escaped v)
byte_rest b r [] e h = absurd (not_zero b e (first_same b 0 r (0 ∷ []) h).0)
byte_rest b r (d ∷ ds) e h =
    by_bool (eqb d 0)
    (λ f.
    let g = h ∙ cond_true (eqb d 0) (0 ∷ 255 ∷ escaped ds) (d ∷ escaped ds) f in
    absurd (not_zero b e (first_same b 0 r (255 ∷ escaped ds) g).0))
    (λ f.
    let g = h ∙ cond_false (eqb d 0) (0 ∷ 255 ∷ escaped ds) (d ∷ escaped ds) f in
    let p = first_same b d r (escaped ds) g in
    (ds, ap (λ (x : ℕ). x ∷ ds) (sym p.0), p.1))

-- an escaped text that begins with 0: its end, or a zero of it
pub zero_byte : (b : ℕ) (r u : List ℕ) → eqb b 0 ≡ true → b ∷ r ≡ escaped u → ((u ≡ []) × (r ≡ 0 ∷ [])) ⊎ ((v : List ℕ) × (u ≡ b ∷ v) × (r ≡ 255 ∷ escaped v))
zero_byte b r [] e h = inl (refl, (first_same b 0 r (0 ∷ []) h).1)
zero_byte b r (d ∷ ds) e h =
    by_bool (eqb d 0)
    (λ f.
    let g = h ∙ cond_true (eqb d 0) (0 ∷ 255 ∷ escaped ds) (d ∷ escaped ds) f in
    inr (ds, ap (λ (x : ℕ). x ∷ ds) (zero_of d f ∙ sym (zero_of b e)), (first_same b 0 r (255 ∷ escaped ds) g).1))
    (λ f.
    let g = h ∙ cond_false (eqb d 0) (0 ∷ 255 ∷ escaped ds) (d ∷ escaped ds) f in
    absurd (not_zero d f (sym (first_same b d r (escaped ds) g).0 ∙ zero_of b e)))

pub rest_of : (t u r : List ℕ) → pieces t ++ r ≡ escaped u → Rest t u r
rest_of [] u r h = (u, refl, h)
rest_of (c ∷ cs) u r h =
    by_bool (eqb c 0)
    (λ e.
    let p = zero_rest cs u r (sym (ap (λ (l : List ℕ). l ++ r) (cond_true (eqb c 0) (0 ∷ 255 ∷ pieces cs) (c ∷ pieces cs) e)) ∙ h) in
    let ih = rest_of cs p.0 r p.2 in
    (ih.0, p.1 ∙ (λ i. sym (zero_of c e) i ∷ ih.1 i), ih.2))
    (λ e.
    let p = byte_rest c (pieces cs ++ r) u e (sym (ap (λ (l : List ℕ). l ++ r) (cond_false (eqb c 0) (0 ∷ 255 ∷ pieces cs) (c ∷ pieces cs) e)) ∙ h) in
    let ih = rest_of cs p.0 r p.2 in
    (ih.0, p.1 ∙ ap (λ (l : List ℕ). c ∷ l) ih.1, ih.2))

-- ---- what was read so far

abbrev pub front_of : Expected → List ℕ → List ℕ
front_of expect.Escape t = pieces t ++ (0 ∷ [])
front_of e t = pieces t

abbrev pub content_state : Expected → Expected
content_state expect.Escape = expect.Character
content_state e = e

pub record Scanned (ty : CqlType) (front t : List ℕ) (e : Expected) : Type 0 where
  pub is_front : front ≡ front_of e t
  pub runs : run ty (Some expect.Character) t ≡ Some (content_state e)
  pub bytes : IsBytes t

pub scanned_none : (ty : CqlType) → Scanned ty [] [] expect.Character
scanned_none ty = record { is_front = refl; runs = refl; bytes = small_nil }

state_good : (ty : CqlType) (t : List ℕ) (e : Expected) → run ty (Some expect.Character) t ≡ Some e → Good e
state_good ty t e h = subst GoodIfAny h (good_run ty (Some expect.Character) t tt)

-- what is read can be completed, by one byte or more
pub scanned_continues : (ty : CqlType) (front t : List ℕ) (e : Expected) → IsEscapedType ty → Scanned ty front t e → Continues (IsEscapedWord ty) front
scanned_continues ty front t expect.Escape escaped_type s = (
  t,
  0,
  [],
  (
    run_content ty t escaped_type s.bytes s.runs,
    ap (λ (l : List ℕ). l ++ (0 ∷ [])) s.is_front ∙ append_assoc (pieces t) (0 ∷ []) (0 ∷ []) ∙ sym (escaped-pieces t),
  ),
)
scanned_continues ty front t expect.Character escaped_type s = (
  t,
  0,
  0 ∷ [],
  (
    run_content ty t escaped_type s.bytes s.runs,
    ap (λ (l : List ℕ). l ++ (0 ∷ 0 ∷ [])) s.is_front ∙ sym (escaped-pieces t),
  ),
)
scanned_continues ty front t (expect.Tail low high more) escaped_type s =
    let e : Expected = expect.Tail low high more in
    let good = state_good ty t e s.runs in
    let u = t ++ filling e in
    let runs : run ty (Some expect.Character) u ≡ Some expect.Character =
    run-append ty (Some expect.Character) t (filling e) ∙ ap (λ (o : Option Expected). run ty o (filling e)) s.runs ∙ filling_run ty e good in
    let some : eqb low 0 ≡ false = (let positive : 0 < low = good.0 in grind (arith, nat_tests)) in
    let word : escaped u ≡ pieces t ++ (low ∷ escaped (tails more)) =
    escaped-append t (filling e) ∙ ap (λ (l : List ℕ). pieces t ++ l) (cond_false (eqb low 0) (0 ∷ 255 ∷ escaped (tails more)) (low ∷ escaped (tails more)) some) in (
      u,
      low,
      escaped (tails more),
      (
        run_content ty u escaped_type (small_append t (filling e) s.bytes (small_filling e good)) runs,
        ap (λ (l : List ℕ). l ++ (low ∷ escaped (tails more))) s.is_front ∙ sym word,
      ),
    )

-- ---- one more byte

pushed_bad : (b : ℕ) (o : Option Expected) → pushed b o ≡ moves.Bad → o ≡ None
pushed_bad b None h = refl
pushed_bad b (Some e) h = absurd (cc)

pushed_push : (b c : ℕ) (o : Option Expected) (e : Expected) → pushed b o ≡ moves.Push c e → (o ≡ Some e) × (b ≡ c)
pushed_push b c None e h = absurd (cc)
pushed_push b c (Some d) e h = ((let p : d ≡ e = cc in ap Some p), (let q : b ≡ c = cc in q))

pushed_wait : (b : ℕ) (o : Option Expected) (e : Expected) → pushed b o ≡ moves.Wait e → ⊥
pushed_wait b None e h = cc
pushed_wait b (Some d) e h = cc

pushed_end : (b : ℕ) (o : Option Expected) → pushed b o ≡ moves.End → ⊥
pushed_end b None h = cc
pushed_end b (Some d) h = cc

-- no content goes on with a byte that nothing wants
dead : (ty : CqlType) (t v : List ℕ) (b : ℕ) (e : Expected) → run ty (Some expect.Character) t ≡ Some e → after_byte ty e b ≡ None
    → IsContent ty (t ++ (b ∷ v)) → ⊥
dead ty t v b e runs none content =
    none_some expect.Character
    (sym (run-append ty (Some expect.Character) t (b ∷ v) ∙ ap (λ (o : Option Expected). run ty o (b ∷ v)) runs ∙ ap (λ (o : Option Expected). run ty o v) none)
    ∙ content_run ty (t ++ (b ∷ v)) content)

regrouped : (front rest word : List ℕ) (b : ℕ) → (front ++ (b ∷ [])) ++ rest ≡ word → front ++ (b ∷ rest) ≡ word
regrouped front rest word b h = sym (append_assoc front (b ∷ []) rest) ∙ h

-- the byte is in the content, which no content has
dead_byte : (ty : CqlType) (t u c rest : List ℕ) (b : ℕ) (e : Expected) → run ty (Some expect.Character) t ≡ Some e → after_byte ty e b ≡ None
    → IsContent ty u → u ≡ t ++ c → b ∷ rest ≡ escaped c → (c ≡ [] → ⊥) → ⊥
dead_byte ty t u c rest b e runs none content is word some =
    by_bool (eqb b 0)
    (λ z.
    ⊎_elim
    (λ p. some p.0)
    (λ p. dead ty t p.0 b e runs none (subst (IsContent ty) (is ∙ ap (λ (l : List ℕ). t ++ l) p.1) content))
    (zero_byte b rest c z word))
    (λ z.
    let p = byte_rest b rest c z word in
    dead ty t p.0 b e runs none (subst (IsContent ty) (is ∙ ap (λ (l : List ℕ). t ++ l) p.1) content))

pub bad_step : (ty : CqlType) (front t : List ℕ) (e : Expected) (b : ℕ) → Scanned ty front t e → step_of ty e b ≡ moves.Bad → EndsAllWords (IsEscapedWord ty) (front ++ (b ∷ []))
bad_step ty front t expect.Character b s bad u rest (content, word) =
    let at = rest_of t u (b ∷ rest) (sym (ap (λ (l : List ℕ). l ++ (b ∷ rest)) s.is_front) ∙ regrouped front rest (escaped u) b word) in
    by_bool (eqb b 0)
    (λ z. absurd (cc (sym (cond_true (eqb b 0) (moves.Wait expect.Escape) (pushed b (lead ty b)) z) ∙ bad)))
    (λ z.
    let none = pushed_bad b (lead ty b) (sym (cond_false (eqb b 0) (moves.Wait expect.Escape) (pushed b (lead ty b)) z) ∙ bad) in
    let p = byte_rest b rest at.0 z at.2 in
    dead ty t p.0 b expect.Character s.runs none (subst (IsContent ty) (at.1 ∙ ap (λ (l : List ℕ). t ++ l) p.1) content))
bad_step ty front t expect.Escape b s bad u rest (content, word) =
    let at = rest_of t u (0 ∷ b ∷ rest)
    (sym (append_assoc (pieces t) (0 ∷ []) (b ∷ rest)) ∙ sym (ap (λ (l : List ℕ). l ++ (b ∷ rest)) s.is_front) ∙ regrouped front rest (escaped u) b word) in
    by_bool (eqb b 0)
    (λ z. absurd (cc (sym (cond_true (eqb b 0) moves.End (cond (eqb b 255) (moves.Push 0 expect.Character) moves.Bad) z) ∙ bad)))
    (λ z.
    by_bool (eqb b 255)
    (λ y.
    absurd (cc (sym (cond_false (eqb b 0) moves.End (cond (eqb b 255) (moves.Push 0 expect.Character) moves.Bad) z ∙ cond_true (eqb b 255) (moves.Push 0 expect.Character) moves.Bad y) ∙ bad)))
    (λ y.
    ⊎_elim
    (λ p. not_zero b z (first_same b 0 rest [] p.1).0)
    (λ p. false≢true (sym y ∙ eq-eqb b 255 (first_same b 255 rest (escaped p.0) p.2).0))
    (zero_byte 0 (b ∷ rest) at.0 refl at.2)))
bad_step ty front t (expect.Tail low high more) b s bad u rest (content, word) =
    let e : Expected = expect.Tail low high more in
    let at = rest_of t u (b ∷ rest) (sym (ap (λ (l : List ℕ). l ++ (b ∷ rest)) s.is_front) ∙ regrouped front rest (escaped u) b word) in
    let none = pushed_bad b (after_byte ty e b) bad in
    dead_byte ty t u at.0 rest b e s.runs none content at.1 at.2
    (λ empty.
    let same : u ≡ t = at.1 ∙ ap (λ (l : List ℕ). t ++ l) empty ∙ append-nil t in
    let wrong : Some expect.Character ≡ Some e = sym (content_run ty t (subst (IsContent ty) same content)) ∙ s.runs in
    cc)

pub wait_step : (ty : CqlType) (front t : List ℕ) (e next : Expected) (b : ℕ) → Scanned ty front t e → step_of ty e b ≡ moves.Wait next → Scanned ty (front ++ (b ∷ [])) t next
wait_step ty front t expect.Character next b s h =
    by_bool (eqb b 0)
    (λ z.
    let is : expect.Escape ≡ next = cc (sym (cond_true (eqb b 0) (moves.Wait expect.Escape) (pushed b (lead ty b)) z) ∙ h) in
    subst (λ (e : Expected). Scanned ty (front ++ (b ∷ [])) t e) is
    (record { is_front = (λ i. s.is_front i ++ (zero_of b z i ∷ [])); runs = s.runs; bytes = s.bytes }))
    (λ z. absurd (pushed_wait b (lead ty b) next (sym (cond_false (eqb b 0) (moves.Wait expect.Escape) (pushed b (lead ty b)) z) ∙ h)))
wait_step ty front t expect.Escape next b s h = absurd (go (eqb b 0) (eqb b 255) h)
  where
    go : (x y : Bool) → cond x moves.End (cond y (moves.Push 0 expect.Character) moves.Bad) ≡ moves.Wait next → ⊥
    go true y g = cc
    go false true g = cc
    go false false g = cc
wait_step ty front t (expect.Tail low high more) next b s h = absurd (pushed_wait b (after_byte ty (expect.Tail low high more) b) next h)

pub end_step : (ty : CqlType) (front t : List ℕ) (e : Expected) (b : ℕ) → IsEscapedType ty → Scanned ty front t e → step_of ty e b ≡ moves.End → IsEscapedWord ty (front ++ (b ∷ [])) t
end_step ty front t expect.Character b escaped_type s h = absurd (go (eqb b 0) h)
  where
    go : (x : Bool) → cond x (moves.Wait expect.Escape) (pushed b (lead ty b)) ≡ moves.End → ⊥
    go true g = cc
    go false g = pushed_end b (lead ty b) g
end_step ty front t expect.Escape b escaped_type s h =
    by_bool (eqb b 0)
    (λ z. (
      run_content ty t escaped_type s.bytes s.runs,
      (λ i. s.is_front i ++ (zero_of b z i ∷ [])) ∙ append_assoc (pieces t) (0 ∷ []) (0 ∷ []) ∙ sym (escaped-pieces t),
    ))
    (λ z. absurd (go (eqb b 255) (sym (cond_false (eqb b 0) moves.End (cond (eqb b 255) (moves.Push 0 expect.Character) moves.Bad) z) ∙ h)))
  where
    go : (x : Bool) → cond x (moves.Push 0 expect.Character) moves.Bad ≡ moves.End → ⊥
    go true g = cc
    go false g = cc
end_step ty front t (expect.Tail low high more) b escaped_type s h = absurd (pushed_end b (after_byte ty (expect.Tail low high more) b) h)

pieces-push : (t : List ℕ) (b : ℕ) → eqb b 0 ≡ false → pieces (t ++ (b ∷ [])) ≡ pieces t ++ (b ∷ [])
pieces-push t b z = pieces-append t (b ∷ []) ∙ ap (λ (l : List ℕ). pieces t ++ l) (cond_false (eqb b 0) (0 ∷ 255 ∷ []) (b ∷ []) z)

-- a state that can be completed is one of the content
front_good : (e : Expected) (t : List ℕ) → Good e → (front_of e t ≡ pieces t) × (content_state e ≡ e)
front_good expect.Character t g = (refl, refl)
front_good expect.Escape t g = absurd g
front_good (expect.Tail low high more) t g = (refl, refl)

-- a byte of the content, and not 0
content_step : (ty : CqlType) (front t : List ℕ) (e next : Expected) (b c : ℕ) → front ≡ pieces t → run ty (Some expect.Character) t ≡ Some e → IsBytes t
    → b < 256 → eqb b 0 ≡ false → after_byte ty e b ≡ Some next → b ≡ c → Scanned ty (front ++ (b ∷ [])) (t ++ (c ∷ [])) next
content_step ty front t e next b c is runs small low z after same =
    let run_more : run ty (Some expect.Character) (t ++ (b ∷ [])) ≡ Some next =
    run-append ty (Some expect.Character) t (b ∷ []) ∙ ap (λ (o : Option Expected). run ty o (b ∷ [])) runs ∙ ap (λ (o : Option Expected). run ty o []) after ∙ run-nil next in
    let good = front_good next (t ++ (b ∷ [])) (state_good ty (t ++ (b ∷ [])) next run_more) in
    subst (λ (x : ℕ). Scanned ty (front ++ (b ∷ [])) (t ++ (x ∷ [])) next) same
    (record {
      is_front = ap (λ (l : List ℕ). l ++ (b ∷ [])) is ∙ sym (pieces-push t b z) ∙ sym good.0;
      runs = run_more ∙ ap Some (sym good.1);
      bytes = small_append t (b ∷ []) small (small_cons b [] low small_nil);
    })
  where
    run-nil : (d : Expected) → run ty (Some d) [] ≡ Some d
    run-nil d = refl

lead_zero : (ty : CqlType) → lead ty 0 ≡ Some expect.Character
lead_zero types.Ascii = refl
lead_zero types.Text = refl
lead_zero ty = refl

pub push_step : (ty : CqlType) (front t : List ℕ) (e next : Expected) (b c : ℕ) → b < 256 → Scanned ty front t e → step_of ty e b ≡ moves.Push c next
    → Scanned ty (front ++ (b ∷ [])) (t ++ (c ∷ [])) next
push_step ty front t expect.Character next b c low s h =
    by_bool (eqb b 0)
    (λ z. absurd (cc (sym (cond_true (eqb b 0) (moves.Wait expect.Escape) (pushed b (lead ty b)) z) ∙ h)))
    (λ z.
    let p = pushed_push b c (lead ty b) next (sym (cond_false (eqb b 0) (moves.Wait expect.Escape) (pushed b (lead ty b)) z) ∙ h) in
    content_step ty front t expect.Character next b c s.is_front s.runs s.bytes low z p.0 p.1)
push_step ty front t expect.Escape next b c low s h =
    by_bool (eqb b 0)
    (λ z. absurd (cc (sym (cond_true (eqb b 0) moves.End (cond (eqb b 255) (moves.Push 0 expect.Character) moves.Bad) z) ∙ h)))
    (λ z.
    let g = sym (cond_false (eqb b 0) moves.End (cond (eqb b 255) (moves.Push 0 expect.Character) moves.Bad) z) ∙ h in
    by_bool (eqb b 255)
    (λ y.
    let k = sym (cond_true (eqb b 255) (moves.Push 0 expect.Character) moves.Bad y) ∙ g in
    let at_c : 0 ≡ c = cc in
    let at_next : expect.Character ≡ next = cc in
    let is_255 : b ≡ 255 = eqb_same b 255 y in
    subst (λ (x : ℕ). Scanned ty (front ++ (b ∷ [])) (t ++ (x ∷ [])) next) at_c
    (subst (λ (d : Expected). Scanned ty (front ++ (b ∷ [])) (t ++ (0 ∷ [])) d) at_next
    (record {
      is_front = (λ i. s.is_front i ++ (is_255 i ∷ [])) ∙ append_assoc (pieces t) (0 ∷ []) (255 ∷ []) ∙ sym (pieces-append t (0 ∷ []));
      runs = run-append ty (Some expect.Character) t (0 ∷ []) ∙ ap (λ (o : Option Expected). run ty o (0 ∷ [])) s.runs ∙ ap (λ (o : Option Expected). run ty o []) (lead_zero ty);
      bytes = small_append t (0 ∷ []) s.bytes (small_cons 0 [] (omega arith) small_nil);
    })))
    (λ y. absurd (cc (sym (cond_false (eqb b 255) (moves.Push 0 expect.Character) moves.Bad y) ∙ g))))
push_step ty front t (expect.Tail low high more) next b c small s h =
    let e : Expected = expect.Tail low high more in
    let p = pushed_push b c (after_byte ty e b) next h in
    let good = state_good ty t e s.runs in
    by_bool (eqb b 0)
    (λ z. absurd (no_zero low high more next b good z p.0))
    (λ z. content_step ty front t e next b c s.is_front s.runs s.bytes small z p.0 p.1)
  where
    no_zero : (l h m : ℕ) (n : Expected) (d : ℕ) → Good (expect.Tail l h m) → eqb d 0 ≡ true → after_byte ty (expect.Tail l h m) d ≡ Some n → ⊥
    no_zero l h m n d g z after =
        let is_0 : d ≡ 0 = zero_of d z in
        let positive : 0 < l = g.0 in
        let test : (nat_le l d && nat_le d h) ≡ false = grind (arith, nat_tests) in
        none_some n (sym (cond_false (nat_le l d && nat_le d h) _ None test) ∙ after)
