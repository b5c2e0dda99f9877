-- Content that is read byte by byte.
use Rattle.std.proofs.Common.{◌≡◌, ◌≢◌, ◌⊎◌, ◌<◌, ◌≤◌, ◌-◌, ◌+◌, ◌*◌, ◌/◌, ◌&&◌, ℕ, zero, suc, Bool, true, false, cond, eqb, nat_lt, nat_le, List, [], ◌∷◌, ◌++◌, length, Option, Some, None, arith, refl, sym, ap, ◌∙◌, subst, inl, inr, ⊎_elim, append-nil}
use Rattle.std.specs.Str.{IsUtf8, IsAscii}
use Rattle.std.proofs.lemmas.Bool.{cases_eq}
use Rattle.std.proofs.lemmas.Bool.Decides.{nat_tests}
use Rattle.std.proofs.lemmas.Str.{IsUtf8-append, IsUtf8-nil}
use Rattle.std.proofs.lemmas.Str.Ascii.{IsAscii-nil, IsAscii-cons}
use lib.Utf8.{encode, encodes, next, scalar, scalars, scalar_cases, low_scalar}
use Rattle.cql_values.proofs.Words.{by_lt}
use Rattle.cql_values.proofs.Quotes.{by_bool, cond_true, cond_false}
use Rattle.cql_values.proofs.Utf8.{encode_1, encode_2, encode_3, encode_4, below_all, both_true, small_nil, small_cons}
use Rattle.cql_values.specs.Value.{IsBytes}
use Rattle.cql_values.specs.Scan.{IsContent, IsEscapedType, utf8_lead, after_byte}
use Rattle.cql_values.specs.declared.value.CqlType.{CqlType}
use Rattle.cql_values.specs.declared.value.CqlType.TheVariants as types
use Rattle.cql_values.specs.declared.scan.Expected.{Expected}
use Rattle.cql_values.specs.declared.scan.Expected.TheVariants as expect

-- what is wanted after some bytes
abbrev pub run : CqlType → Option Expected → List ℕ → Option Expected
run ty None bytes = None
run ty (Some e) [] = Some e
run ty (Some e) (b ∷ bs) = run ty (after_byte ty e b) bs

pub run-none : (ty : CqlType) (bytes : List ℕ) → run ty None bytes ≡ None
run-none ty bytes = refl

pub run-append : (ty : CqlType) (o : Option Expected) (a b : List ℕ) → run ty o (a ++ b) ≡ run ty (run ty o a) b
run-append ty None a b = refl
run-append ty (Some e) [] b = refl
run-append ty (Some e) (x ∷ xs) b = run-append ty (after_byte ty e x) xs b

pub none_some : {A : Type 0} (x : A) → (let o : Option A = None in o) ≡ Some x → ⊥
none_some x h = cc

-- ---- states that can be completed

abbrev pub Good : Expected → Type 0
Good expect.Character = Unit {0}
Good expect.Escape = ⊥
Good (expect.Tail low high more) = (0 < low) × (low ≤ high) × (high < 256)

abbrev pub GoodIfAny : Option Expected → Type 0
GoodIfAny None = Unit {0}
GoodIfAny (Some e) = Good e

good_cond : (b : Bool) (x y : Option Expected) → GoodIfAny x → GoodIfAny y → GoodIfAny (cond b x y)
good_cond true x y p q = p
good_cond false x y p q = q

good_tail : (low high more : ℕ) → 0 < low → low ≤ high → high < 256 → GoodIfAny (Some (expect.Tail low high more))
good_tail low high more a b c = (a, b, c)

good_utf8 : (b : ℕ) → GoodIfAny (utf8_lead b)
good_utf8 b =
    good_cond (nat_lt b 0x80) _ _ tt
    (good_cond (nat_lt b 0xC2) _ _ tt
    (good_cond (nat_lt b 0xE0) _ _ (good_tail 0x80 0xBF 0 (omega arith) (omega arith) (omega arith))
    (good_cond (eqb b 0xE0) _ _ (good_tail 0xA0 0xBF 1 (omega arith) (omega arith) (omega arith))
    (good_cond (eqb b 0xED) _ _ (good_tail 0x80 0x9F 1 (omega arith) (omega arith) (omega arith))
    (good_cond (nat_lt b 0xF0) _ _ (good_tail 0x80 0xBF 1 (omega arith) (omega arith) (omega arith))
    (good_cond (eqb b 0xF0) _ _ (good_tail 0x90 0xBF 2 (omega arith) (omega arith) (omega arith))
    (good_cond (nat_lt b 0xF4) _ _ (good_tail 0x80 0xBF 2 (omega arith) (omega arith) (omega arith))
    (good_cond (eqb b 0xF4) _ _ (good_tail 0x80 0x8F 2 (omega arith) (omega arith) (omega arith)) tt))))))))

good_next : (more : ℕ) → GoodIfAny (Some (cond (eqb more 0) expect.Character (expect.Tail 0x80 0xBF (more - 1))))
good_next more = go (eqb more 0)
  where
    go : (b : Bool) → GoodIfAny (Some (cond b expect.Character (expect.Tail 0x80 0xBF (more - 1))))
    go true = tt
    go false = (omega arith, omega arith, omega arith)

good_after : (ty : CqlType) (e : Expected) (b : ℕ) → GoodIfAny (after_byte ty e b)
good_after types.Ascii expect.Character b = good_cond (nat_lt b 0x80) _ _ tt tt
good_after types.Text expect.Character b = good_utf8 b
good_after ty expect.Escape b = tt
good_after ty (expect.Tail low high more) b = good_cond (nat_le low b && nat_le b high) _ _ (good_next more) tt
good_after ty expect.Character b = tt

pub good_run : (ty : CqlType) (o : Option Expected) (bytes : List ℕ) → GoodIfAny o → GoodIfAny (run ty o bytes)
good_run ty None bytes g = tt
good_run ty (Some e) [] g = g
good_run ty (Some e) (b ∷ bs) g = good_run ty (after_byte ty e b) bs (good_after ty e b)

-- ---- the bytes that complete a state

abbrev pub tails : ℕ → List ℕ
tails zero = []
tails (suc k) = 0x80 ∷ tails k

abbrev pub filling : Expected → List ℕ
filling expect.Character = []
filling expect.Escape = []
filling (expect.Tail low high more) = low ∷ tails more

pub tail_step : (ty : CqlType) (low high more b : ℕ) → low ≤ b → b ≤ high
    → after_byte ty (expect.Tail low high more) b ≡ Some (cond (eqb more 0) expect.Character (expect.Tail 0x80 0xBF (more - 1)))
tail_step ty low high more b at_least at_most =
    let test : (nat_le low b && nat_le b high) ≡ true = grind (arith, nat_tests) in
    cond_true (nat_le low b && nat_le b high) _ None test

tails_run : (ty : CqlType) (low high more : ℕ) → low ≤ high → run ty (Some (expect.Tail low high more)) (low ∷ tails more) ≡ Some expect.Character
tails_run ty low high zero h = ap (λ (o : Option Expected). run ty o []) (tail_step ty low high 0 low (omega arith) h)
tails_run ty low high (suc k) h =
    let more : suc k - 1 ≡ k = omega arith in
    let some : eqb (suc k) 0 ≡ false = grind (arith, nat_tests) in
    ap (λ (o : Option Expected). run ty o (0x80 ∷ tails k)) (tail_step ty low high (suc k) low (omega arith) h)
    ∙ ap (λ (b : Bool). run ty (Some (cond b expect.Character (expect.Tail 0x80 0xBF (suc k - 1)))) (0x80 ∷ tails k)) some
    ∙ ap (λ (m : ℕ). run ty (Some (expect.Tail 0x80 0xBF m)) (0x80 ∷ tails k)) more
    ∙ tails_run ty 0x80 0xBF k (omega arith)

pub filling_run : (ty : CqlType) (e : Expected) → Good e → run ty (Some e) (filling e) ≡ Some expect.Character
filling_run ty expect.Character g = refl
filling_run ty expect.Escape g = absurd g
filling_run ty (expect.Tail low high more) g = tails_run ty low high more g.1

small_tails : (k : ℕ) → IsBytes (tails k)
small_tails zero = small_nil
small_tails (suc k) = small_cons 0x80 (tails k) (omega arith) (small_tails k)

pub small_filling : (e : Expected) → Good e → IsBytes (filling e)
small_filling expect.Character g = small_nil
small_filling expect.Escape g = small_nil
small_filling (expect.Tail low high more) g = small_cons low (tails more) (omega arith) (small_tails more)

-- ---- UTF-8 is read

lead_1 : (b : ℕ) → b < 0x80 → utf8_lead b ≡ Some expect.Character
lead_1 b h = grind (arith, nat_tests)

lead_2 : (b : ℕ) → 0xC2 ≤ b → b < 0xE0 → utf8_lead b ≡ Some (expect.Tail 0x80 0xBF 0)
lead_2 b l h = grind (arith, nat_tests)

lead_3 : (b : ℕ) → 0xE0 < b → b < 0xF0 → b ≢ 0xED → utf8_lead b ≡ Some (expect.Tail 0x80 0xBF 1)
lead_3 b l h n = grind (arith, nat_tests)

lead_4 : (b : ℕ) → 0xF0 < b → b < 0xF4 → utf8_lead b ≡ Some (expect.Tail 0x80 0xBF 2)
lead_4 b l h = grind (arith, nat_tests)

-- a first byte, and then the rest of a character
from_lead : (b : ℕ) (e : Expected) (r : List ℕ) → utf8_lead b ≡ Some e → run types.Text (Some expect.Character) (b ∷ r) ≡ run types.Text (Some e) r
from_lead b e r h = ap (λ (o : Option Expected). run types.Text o r) h

one_tail : (low high y : ℕ) (r : List ℕ) → low ≤ y → y ≤ high → run types.Text (Some (expect.Tail low high 0)) (y ∷ r) ≡ run types.Text (Some expect.Character) r
one_tail low high y r l h = ap (λ (o : Option Expected). run types.Text o r) (tail_step types.Text low high 0 y l h)

two_tails : (low high y z : ℕ) (r : List ℕ) → low ≤ y → y ≤ high → 0x80 ≤ z → z ≤ 0xBF → run types.Text (Some (expect.Tail low high 1)) (y ∷ z ∷ r) ≡ run types.Text (Some expect.Character) r
two_tails low high y z r l h m n =
    ap (λ (o : Option Expected). run types.Text o (z ∷ r)) (tail_step types.Text low high 1 y l h) ∙ one_tail 0x80 0xBF z r m n

three_tails : (low high y z w : ℕ) (r : List ℕ) → low ≤ y → y ≤ high → 0x80 ≤ z → z ≤ 0xBF → 0x80 ≤ w → w ≤ 0xBF
    → run types.Text (Some (expect.Tail low high 2)) (y ∷ z ∷ w ∷ r) ≡ run types.Text (Some expect.Character) r
three_tails low high y z w r l h m n o q =
    ap (λ (x : Option Expected). run types.Text x (z ∷ w ∷ r)) (tail_step types.Text low high 2 y l h) ∙ two_tails 0x80 0xBF z w r m n o q

char_run : (c : ℕ) (r : List ℕ) → scalar c ≡ true → run types.Text (Some expect.Character) (encode c ++ r) ≡ run types.Text (Some expect.Character) r
char_run c r s =
    let top = below_all c s in
    let P : List ℕ → Type 0 = λ l. run types.Text (Some expect.Character) (l ++ r) ≡ run types.Text (Some expect.Character) r in
    by_lt c 128
    (λ h. subst P (sym (encode_1 c h)) (from_lead c expect.Character r (lead_1 c h)))
    (λ l. by_lt c 2048
    (λ h. subst P (sym (encode_2 c l h))
    (from_lead (192 + c / 64) (expect.Tail 0x80 0xBF 0) (next c ∷ r) (lead_2 (192 + c / 64) (omega arith) (omega arith)) ∙ one_tail 0x80 0xBF (next c) r (omega arith) (omega arith)))
    (λ m. by_lt c 65536
    (λ h. subst P (sym (encode_3 c m h)) (char_run_3 c r s m h))
    (λ n. subst P (sym (encode_4 c n)) (char_run_4 c r top n))))
  where
    char_run_3 : (d : ℕ) (t : List ℕ) → scalar d ≡ true → 2048 ≤ d → d < 65536
        → run types.Text (Some expect.Character) ((224 + d / 4096) ∷ next (d / 64) ∷ next d ∷ t) ≡ run types.Text (Some expect.Character) t
    char_run_3 d t u m h =
        by_lt d 4096
        (λ low.
        let e : 224 + d / 4096 ≡ 224 = omega arith in
        ap (λ (b : ℕ). run types.Text (Some expect.Character) (b ∷ next (d / 64) ∷ next d ∷ t)) e
        ∙ two_tails 0xA0 0xBF (next (d / 64)) (next d) t (omega arith) (omega arith) (omega arith) (omega arith))
        (λ high.
        ⊎_elim
        (λ is.
        let below : d < 55296 = ⊎_elim (λ v. v) (λ v. absurd (omega arith)) (scalar_cases d u) in
        ap (λ (b : ℕ). run types.Text (Some expect.Character) (b ∷ next (d / 64) ∷ next d ∷ t)) is
        ∙ two_tails 0x80 0x9F (next (d / 64)) (next d) t (omega arith) (omega arith) (omega arith) (omega arith))
        (λ other.
        from_lead (224 + d / 4096) (expect.Tail 0x80 0xBF 1) (next (d / 64) ∷ next d ∷ t) (lead_3 (224 + d / 4096) (omega arith) (omega arith) other)
        ∙ two_tails 0x80 0xBF (next (d / 64)) (next d) t (omega arith) (omega arith) (omega arith) (omega arith))
        (cases_eq (224 + d / 4096) 237))

    char_run_4 : (d : ℕ) (t : List ℕ) → d < 1114112 → 65536 ≤ d
        → run types.Text (Some expect.Character) ((240 + d / 262144) ∷ next (d / 4096) ∷ next (d / 64) ∷ next d ∷ t) ≡ run types.Text (Some expect.Character) t
    char_run_4 d t top n =
        by_lt d 262144
        (λ low.
        let e : 240 + d / 262144 ≡ 240 = omega arith in
        ap (λ (b : ℕ). run types.Text (Some expect.Character) (b ∷ next (d / 4096) ∷ next (d / 64) ∷ next d ∷ t)) e
        ∙ three_tails 0x90 0xBF (next (d / 4096)) (next (d / 64)) (next d) t (omega arith) (omega arith) (omega arith) (omega arith) (omega arith) (omega arith))
        (λ high. by_lt d 1048576
        (λ mid.
        from_lead (240 + d / 262144) (expect.Tail 0x80 0xBF 2) (next (d / 4096) ∷ next (d / 64) ∷ next d ∷ t) (lead_4 (240 + d / 262144) (omega arith) (omega arith))
        ∙ three_tails 0x80 0xBF (next (d / 4096)) (next (d / 64)) (next d) t (omega arith) (omega arith) (omega arith) (omega arith) (omega arith) (omega arith))
        (λ most.
        let e : 240 + d / 262144 ≡ 244 = omega arith in
        ap (λ (b : ℕ). run types.Text (Some expect.Character) (b ∷ next (d / 4096) ∷ next (d / 64) ∷ next d ∷ t)) e
        ∙ three_tails 0x80 0x8F (next (d / 4096)) (next (d / 64)) (next d) t (omega arith) (omega arith) (omega arith) (omega arith) (omega arith) (omega arith)))

chars_run : (cs : List ℕ) → scalars cs ≡ true → run types.Text (Some expect.Character) (encodes cs) ≡ Some expect.Character
chars_run [] s = refl
chars_run (c ∷ cs) s =
    let p = both_true (scalar c) (scalars cs) s in
    char_run c (encodes cs) p.0 ∙ chars_run cs p.1

-- ---- what is read is UTF-8

one_char : (c : ℕ) (bytes : List ℕ) → scalar c ≡ true → encode c ≡ bytes → IsUtf8 bytes
one_char c bytes s e = (c ∷ [], (let t : scalars (c ∷ []) ≡ true = ap (λ (b : Bool). b && true) s in t, append-nil (encode c) ∙ e))

high_scalar : (c : ℕ) → 57344 ≤ c → c < 1114112 → scalar c ≡ true
high_scalar c l h = grind (arith, nat_tests)

char_2 : (b y : ℕ) → 0xC2 ≤ b → b < 0xE0 → 0x80 ≤ y → y ≤ 0xBF → IsUtf8 (b ∷ y ∷ [])
char_2 b y l h m n =
    let c = (b - 192) * 64 + (y - 128) in
    let p : 192 + c / 64 ≡ b = omega arith in
    let q : next c ≡ y = omega arith in
    one_char c (b ∷ y ∷ []) (low_scalar c (omega arith)) (encode_2 c (omega arith) (omega arith) ∙ (λ i. p i ∷ q i ∷ []))

char_3 : (b y z : ℕ) → 0xE0 ≤ b → b < 0xF0 → 0x80 ≤ y → y ≤ 0xBF → 0x80 ≤ z → z ≤ 0xBF
    → (let c : ℕ = (b - 224) * 4096 + (y - 128) * 64 + (z - 128) in (2048 ≤ c) × ((c < 55296) ⊎ (57344 ≤ c))) → IsUtf8 (b ∷ y ∷ z ∷ [])
char_3 b y z l h m n o q ranges =
    let c = (b - 224) * 4096 + (y - 128) * 64 + (z - 128) in
    let least : 2048 ≤ c = ranges.0 in
    let at_b : 224 + c / 4096 ≡ b = omega arith in
    let at_y : next (c / 64) ≡ y = omega arith in
    let at_z : next c ≡ z = omega arith in
    one_char c (b ∷ y ∷ z ∷ []) (⊎_elim (λ low. low_scalar c low) (λ high. high_scalar c high (omega arith)) ranges.1)
    (encode_3 c least (omega arith) ∙ (λ i. at_b i ∷ at_y i ∷ at_z i ∷ []))

char_4 : (b y z w : ℕ) → 0xF0 ≤ b → b ≤ 0xF4 → 0x80 ≤ y → y ≤ 0xBF → 0x80 ≤ z → z ≤ 0xBF → 0x80 ≤ w → w ≤ 0xBF
    → (let high : ℕ = (b - 240) * 64 + (y - 128) in (16 ≤ high) × (high < 272)) → IsUtf8 (b ∷ y ∷ z ∷ w ∷ [])
char_4 b y z w l h m n o q s t ranges =
    let c = (b - 240) * 262144 + (y - 128) * 4096 + (z - 128) * 64 + (w - 128) in
    let at_b : 240 + c / 262144 ≡ b = omega arith in
    let at_y : next (c / 4096) ≡ y = omega arith in
    let mid : c / 64 ≡ (b - 240) * 4096 + (y - 128) * 64 + (z - 128) = omega arith in
    let at_z : next (c / 64) ≡ z = ap next mid ∙ omega arith in
    let at_w : next c ≡ w = omega arith in
    one_char c (b ∷ y ∷ z ∷ w ∷ []) (high_scalar c (omega arith) (omega arith))
    (encode_4 c (omega arith) ∙ (λ i. at_b i ∷ at_y i ∷ at_z i ∷ at_w i ∷ []))

-- what follows a state within a character
record Tailed (low high more : ℕ) (r : List ℕ) : Type 0 where
  pub first : ℕ
  pub rest : List ℕ
  pub is : r ≡ first ∷ rest
  pub at_least : low ≤ first
  pub at_most : first ≤ high
  pub goes_on : run types.Text (Some (cond (eqb more 0) expect.Character (expect.Tail 0x80 0xBF (more - 1)))) rest ≡ Some expect.Character

tailed : (low high more : ℕ) (r : List ℕ) → run types.Text (Some (expect.Tail low high more)) r ≡ Some expect.Character → Tailed low high more r
tailed low high more [] h = absurd (cc)
tailed low high more (y ∷ r) h = go (nat_le low y) (nat_le y high) refl refl h
  where
    go : (a b : Bool) → nat_le low y ≡ a → nat_le y high ≡ b
        → run types.Text (cond (a && b) (Some (cond (eqb more 0) expect.Character (expect.Tail 0x80 0xBF (more - 1)))) None) r ≡ Some expect.Character → Tailed low high more (y ∷ r)
    go true true e f g = record { first = y; rest = r; is = refl; at_least = grind (arith, nat_tests); at_most = grind (arith, nat_tests); goes_on = g }
    go true false e f g = absurd (none_some expect.Character g)
    go false b e f g = absurd (none_some expect.Character g)

read_2 : (n b low high : ℕ) (r : List ℕ) → 0xC2 ≤ b → b < 0xE0 → 0x80 ≤ low → high ≤ 0xBF → length r ≤ n
    → ((t : List ℕ) → length t ≤ n → run types.Text (Some expect.Character) t ≡ Some expect.Character → IsUtf8 t)
    → run types.Text (Some (expect.Tail low high 0)) r ≡ Some expect.Character → IsUtf8 (b ∷ r)
read_2 n b low high r l h m o len ih goes =
    let y = tailed low high 0 r goes in
    let at_least = y.at_least in
    let at_most = y.at_most in
    let shorter = ap length y.is in
    subst (λ (t : List ℕ). IsUtf8 (b ∷ t)) (sym y.is)
    (IsUtf8-append (b ∷ y.first ∷ []) y.rest (char_2 b y.first l h (omega arith) (omega arith)) (ih y.rest (omega arith) y.goes_on))

read_3 : (n b low high : ℕ) (r : List ℕ) → 0xE0 ≤ b → b < 0xF0 → 0x80 ≤ low → high ≤ 0xBF → length r ≤ n
    → ((y z : ℕ) → low ≤ y → y ≤ high → 0x80 ≤ z → z ≤ 0xBF → let c : ℕ = (b - 224) * 4096 + (y - 128) * 64 + (z - 128) in (2048 ≤ c) × ((c < 55296) ⊎ (57344 ≤ c)))
    → ((t : List ℕ) → length t ≤ n → run types.Text (Some expect.Character) t ≡ Some expect.Character → IsUtf8 t)
    → run types.Text (Some (expect.Tail low high 1)) r ≡ Some expect.Character → IsUtf8 (b ∷ r)
read_3 n b low high r l h m o len ranges ih goes =
    let y = tailed low high 1 r goes in
    let y_least = y.at_least in
    let y_most = y.at_most in
    let y_shorter = ap length y.is in
    let z = tailed 0x80 0xBF 0 y.rest y.goes_on in
    let z_least = z.at_least in
    let z_most = z.at_most in
    let z_shorter = ap length z.is in
    subst (λ (t : List ℕ). IsUtf8 (b ∷ t)) (sym (y.is ∙ ap (λ (t : List ℕ). y.first ∷ t) z.is))
    (IsUtf8-append (b ∷ y.first ∷ z.first ∷ []) z.rest
    (char_3 b y.first z.first l h (omega arith) (omega arith) z_least z_most (ranges y.first z.first y_least y_most z_least z_most))
    (ih z.rest (omega arith) z.goes_on))

read_4 : (n b low high : ℕ) (r : List ℕ) → 0xF0 ≤ b → b ≤ 0xF4 → 0x80 ≤ low → high ≤ 0xBF → length r ≤ n
    → ((y : ℕ) → low ≤ y → y ≤ high → let top : ℕ = (b - 240) * 64 + (y - 128) in (16 ≤ top) × (top < 272))
    → ((t : List ℕ) → length t ≤ n → run types.Text (Some expect.Character) t ≡ Some expect.Character → IsUtf8 t)
    → run types.Text (Some (expect.Tail low high 2)) r ≡ Some expect.Character → IsUtf8 (b ∷ r)
read_4 n b low high r l h m o len ranges ih goes =
    let y = tailed low high 2 r goes in
    let y_least = y.at_least in
    let y_most = y.at_most in
    let y_shorter = ap length y.is in
    let z = tailed 0x80 0xBF 1 y.rest y.goes_on in
    let z_least = z.at_least in
    let z_most = z.at_most in
    let z_shorter = ap length z.is in
    let w = tailed 0x80 0xBF 0 z.rest z.goes_on in
    let w_least = w.at_least in
    let w_most = w.at_most in
    let w_shorter = ap length w.is in
    subst (λ (t : List ℕ). IsUtf8 (b ∷ t)) (sym (y.is ∙ ap (λ (t : List ℕ). y.first ∷ t) (z.is ∙ ap (λ (t : List ℕ). z.first ∷ t) w.is)))
    (IsUtf8-append (b ∷ y.first ∷ z.first ∷ w.first ∷ []) w.rest
    (char_4 b y.first z.first w.first l h (omega arith) (omega arith) z_least z_most w_least w_most (ranges y.first y_least y_most))
    (ih w.rest (omega arith) w.goes_on))

text_within : (n : ℕ) (t : List ℕ) → length t ≤ n → run types.Text (Some expect.Character) t ≡ Some expect.Character → IsUtf8 t
text_within n [] len h = IsUtf8-nil
text_within zero (b ∷ r) len h = absurd (omega arith)
text_within (suc n) (b ∷ r) len h =
    let ih = λ (t : List ℕ) (l : length t ≤ n) (g : run types.Text (Some expect.Character) t ≡ Some expect.Character). text_within n t l g in
    let short : length r ≤ n = omega arith in
    let at = λ (e : Option Expected) (g : utf8_lead b ≡ e). sym (ap (λ (o : Option Expected). run types.Text o r) g) ∙ h in
    by_lt b 0x80
    (λ l. IsUtf8-append (b ∷ []) r (one_char b (b ∷ []) (low_scalar b (omega arith)) (encode_1 b l)) (ih r short (at (Some expect.Character) (lead_1 b l))))
    (λ l. by_lt b 0xC2
    (λ h2. absurd (none_some expect.Character (at None (grind (arith, nat_tests)))))
    (λ l2. by_lt b 0xE0
    (λ h3. read_2 n b 0x80 0xBF r l2 h3 (omega arith) (omega arith) short ih (at (Some (expect.Tail 0x80 0xBF 0)) (lead_2 b l2 h3)))
    (λ l3. by_lt b 0xF0
    (λ h4. text_3 n b r l3 h4 short ih h)
    (λ l4. by_lt b 0xF5
    (λ h5. text_4 n b r l4 (omega arith) short ih h)
    (λ l5. absurd (none_some expect.Character (at None (grind (arith, nat_tests)))))))))
  where
    text_3 : (m c : ℕ) (t : List ℕ) → 0xE0 ≤ c → c < 0xF0 → length t ≤ m
        → ((u : List ℕ) → length u ≤ m → run types.Text (Some expect.Character) u ≡ Some expect.Character → IsUtf8 u)
        → run types.Text (Some expect.Character) (c ∷ t) ≡ Some expect.Character → IsUtf8 (c ∷ t)
    text_3 m c t l top len2 rec g =
        ⊎_elim
        (λ is.
        read_3 m c 0xA0 0xBF t l top (omega arith) (omega arith) len2 (λ y z a b d e. (omega arith, inl (omega arith))) rec
        (sym (ap (λ (o : Option Expected). run types.Text o t) (ap utf8_lead is)) ∙ g))
        (λ other.
        ⊎_elim
        (λ is.
        read_3 m c 0x80 0x9F t l top (omega arith) (omega arith) len2 (λ y z a b d e. (omega arith, inl (omega arith))) rec
        (sym (ap (λ (o : Option Expected). run types.Text o t) (ap utf8_lead is)) ∙ g))
        (λ third.
        read_3 m c 0x80 0xBF t l top (omega arith) (omega arith) len2
        (λ y z a b d e. (omega arith, by_lt c 0xED (λ low. inl (omega arith)) (λ high. inr (omega arith)))) rec
        (sym (ap (λ (o : Option Expected). run types.Text o t) (lead_3 c (omega arith) top third)) ∙ g))
        (cases_eq c 0xED))
        (cases_eq c 0xE0)

    text_4 : (m c : ℕ) (t : List ℕ) → 0xF0 ≤ c → c ≤ 0xF4 → length t ≤ m
        → ((u : List ℕ) → length u ≤ m → run types.Text (Some expect.Character) u ≡ Some expect.Character → IsUtf8 u)
        → run types.Text (Some expect.Character) (c ∷ t) ≡ Some expect.Character → IsUtf8 (c ∷ t)
    text_4 m c t l top len2 rec g =
        ⊎_elim
        (λ is.
        read_4 m c 0x90 0xBF t l top (omega arith) (omega arith) len2 (λ y a b. (omega arith, omega arith)) rec
        (sym (ap (λ (o : Option Expected). run types.Text o t) (ap utf8_lead is)) ∙ g))
        (λ other.
        ⊎_elim
        (λ is.
        read_4 m c 0x80 0x8F t l top (omega arith) (omega arith) len2 (λ y a b. (omega arith, omega arith)) rec
        (sym (ap (λ (o : Option Expected). run types.Text o t) (ap utf8_lead is)) ∙ g))
        (λ third.
        read_4 m c 0x80 0xBF t l top (omega arith) (omega arith) len2 (λ y a b. (omega arith, omega arith)) rec
        (sym (ap (λ (o : Option Expected). run types.Text o t) (lead_4 c (omega arith) (omega arith))) ∙ g))
        (cases_eq c 0xF4))
        (cases_eq c 0xF0)

-- ---- content, of each type

some_char : {A : Type 0} (x y : A) → Some x ≡ Some y → x ≡ y
some_char x y h = cc

ascii_run : (t : List ℕ) → IsAscii t → run types.Ascii (Some expect.Character) t ≡ Some expect.Character
ascii_run [] ascii = refl
ascii_run (b ∷ bs) ascii =
    let low : b < 128 = ascii 0 in
    let test : nat_lt b 0x80 ≡ true = grind (arith, nat_tests) in
    ap (λ (o : Option Expected). run types.Ascii o bs) (cond_true (nat_lt b 0x80) (Some expect.Character) None test) ∙ ascii_run bs (λ i. ascii (suc i))

run_ascii : (t : List ℕ) → run types.Ascii (Some expect.Character) t ≡ Some expect.Character → IsAscii t
run_ascii [] h = IsAscii-nil
run_ascii (b ∷ bs) h =
    by_bool (nat_lt b 0x80)
    (λ e. IsAscii-cons b bs (grind (arith, nat_tests)) (run_ascii bs (sym (ap (λ (o : Option Expected). run types.Ascii o bs) (cond_true (nat_lt b 0x80) (Some expect.Character) None e)) ∙ h)))
    (λ e. absurd (none_some expect.Character (sym (ap (λ (o : Option Expected). run types.Ascii o bs) (cond_false (nat_lt b 0x80) (Some expect.Character) None e)) ∙ h)))

blob_run : (t : List ℕ) → run types.Blob (Some expect.Character) t ≡ Some expect.Character
blob_run [] = refl
blob_run (b ∷ bs) = blob_run bs

pub content_run : (ty : CqlType) (t : List ℕ) → IsContent ty t → run ty (Some expect.Character) t ≡ Some expect.Character
content_run types.Ascii t ascii = ascii_run t ascii
content_run types.Blob t small = blob_run t
content_run types.Text t u = subst (λ (l : List ℕ). run types.Text (Some expect.Character) l ≡ Some expect.Character) u.1.1 (chars_run u.0 u.1.0)
content_run ty t none = absurd none

pub run_content : (ty : CqlType) (t : List ℕ) → IsEscapedType ty → IsBytes t → run ty (Some expect.Character) t ≡ Some expect.Character → IsContent ty t
run_content types.Ascii t e small h = run_ascii t h
run_content types.Blob t e small h = small
run_content types.Text t e small h = text_within (length t) t (omega arith) h
run_content ty t none small h = absurd none
