-- What is kept of the changes that are held, and what of others comes to them, make up the content of both.
use Rattle.std.proofs.Common.{◌≡◌, ℕ, ◌+◌, ◌≤◌, ◌<◌, ◌-◌, ◌⊎◌, inl, inr, List, [], ◌∷◌, ◌++◌, length, take, drop, get_or, Option, Some, None, Contains, refl, sym, ◌∙◌, ap, subst, arith}
use Rattle.std.specs.List.{sum_by}
use Rattle.std.specs.Option.{option_to_list}
use Rattle.std.specs.declared.cmp.Ordering.TheVariants.{Less}
use Rattle.std.proofs.lemmas.List.Elements.{Contains-append_left, Contains-append_right, Contains-append_cases, Contains-push_cases, Contains-push}
use Rattle.std.proofs.lemmas.List.Sums.{sum_by-append, sum_by-cons}
use Rattle.std.proofs.lemmas.Map.Keys.{sorted_head, sorted_tail}
use Rattle.changes.specs.declared.Held.{Held}
use Rattle.changes.specs.Contents.{AreApart, IsReachedBy}
use Rattle.changes.specs.Lengths.{held_length}
use Rattle.changes.specs.Order.{Outranks}
use Rattle.changes.specs.Places.{AreInOrder, place_cmp, stored_cmp}
use Rattle.changes.proofs.Places.{place_tied}
use Rattle.changes.proofs.Sorted.{all_at}
use Rattle.change_laws.proofs.Outranking.{Outranks_trans}
use Rattle.cell_merge.specs.Parts.{IsOutrankedBy}
use Rattle.cs_base.proofs.Members.{front_more, contains_nil, contains_here, contains_there, contains_cases}
use Rattle.partition_content.specs.declared.spots.Spot.{Spot}
use Rattle.partition_content.specs.Slots.{changes_of, IsCountedWith, IsLengthOf, IsNewlyOutranked}
use Rattle.partition_content.specs.Lengths.{IsMergedLength, IsGainedWith, AreOnce, IsPartLength}
use Rattle.partition_content.proofs.SlotLemmas.{sum_changes}
use Rattle.partition_content.proofs.ToldLemmas.{split_at}

-- ---- one change more

pub part_start : (G : Held → Type 0) → IsPartLength G [] 0
part_start G = record {
  part = [];
  once = tt;
  within = λ x h. absurd (contains_nil x h);
  all = λ x h. absurd (contains_nil x h);
  long = refl;
  most = omega arith;
}

part_taken : (G : Held → Type 0) (front : List Held) (x : Held) (a b : ℕ) → (Contains front x → ⊥) → IsPartLength G front a → (G x → ⊥) → b ≡ held_length x + a → IsPartLength G (front ++ x ∷ []) b
part_taken G front x a b new p free e =
    let sum = sum_by-append held_length front (x ∷ []) in
    let one = sum_by-cons held_length x [] in
    let cons = sum_by-cons held_length x p.part in
    let long = p.long in
    let most = p.most in
    record {
      part = x ∷ p.part;
      once = (λ h. new (p.within x h).0, p.once);
      within = λ y h. elim (contains_cases x p.part y h) [
        | inl same ↦ (subst (Contains (front ++ x ∷ [])) same (Contains-push front x), subst (λ (v : Held). G v → ⊥) same free)
        | inr later ↦ (Contains-append_left front (x ∷ []) y (p.within y later).0, (p.within y later).1)
      ];
      all = λ y h. elim (Contains-push_cases front x y h) [
        | inl before ↦ elim (p.all y before) [ inl k ↦ inl (contains_there x p.part y k) | inr g ↦ inr g ]
        | inr same ↦ inl (subst (Contains (x ∷ p.part)) same (contains_here x p.part))
      ];
      long = omega (arith, e, cons, long);
      most = omega (arith, e, sum, one, most);
    }

part_passed : (G : Held → Type 0) (front : List Held) (x : Held) (a b : ℕ) → IsPartLength G front a → G x → b ≡ a → IsPartLength G (front ++ x ∷ []) b
part_passed G front x a b p told e =
    let sum = sum_by-append held_length front (x ∷ []) in
    let long = p.long in
    let most = p.most in
    record {
      part = p.part;
      once = p.once;
      within = λ y h. (Contains-append_left front (x ∷ []) y (p.within y h).0, (p.within y h).1);
      all = λ y h. elim (Contains-push_cases front x y h) [ inl before ↦ p.all y before | inr same ↦ inr (subst G same told) ];
      long = omega (arith, e, long);
      most = omega (arith, e, sum, most);
    }

pub gained_step : (held front more : List Held) (x : Held) (a b : ℕ) → more ≡ front ++ x ∷ [] → (Contains front x → ⊥) → IsPartLength (IsReachedBy held) front a → IsGainedWith held x a b → IsPartLength (IsReachedBy held) more b
gained_step held front more x a b e new p (inl (reached, is)) = subst (λ (l : List Held). IsPartLength (IsReachedBy held) l b) (sym e) (part_passed (IsReachedBy held) front x a b p reached is)
gained_step held front more x a b e new p (inr (free, is)) = subst (λ (l : List Held). IsPartLength (IsReachedBy held) l b) (sym e) (part_taken (IsReachedBy held) front x a b new p free is)

-- ---- the same changes have the same length

pub once_ordered : (xs : List Held) → AreInOrder xs → AreOnce xs
once_ordered [] ordered = tt
once_ordered (x ∷ xs) ordered = (
  λ h. (let less : place_cmp x.place x.place ≡ Less = all_at (λ v. stored_cmp x v ≡ Less) xs x (sorted_head stored_cmp x xs ordered) h in let e = sym (place_tied x.place x.place refl) ∙ less in cc),
  once_ordered xs (sorted_tail stored_cmp x xs ordered),
)

once_both : (xs ys : List Held) → AreOnce xs → AreOnce ys → ((z : Held) → Contains xs z → Contains ys z → ⊥) → AreOnce (xs ++ ys)
once_both [] ys a b apart = b
once_both (x ∷ xs) ys a b apart = (
  λ h. elim (Contains-append_cases xs ys x h) [ inl k ↦ a.0 k | inr k ↦ apart x (contains_here x xs) k ],
  once_both xs ys a.1 b (λ z k. apart z (contains_there x xs z k)),
)

record IsTakenOut (ys : List Held) (x : Held) : Type 0 where
  rest : List Held
  once : AreOnce rest
  sum : sum_by held_length ys ≡ held_length x + sum_by held_length rest
  within : (z : Held) → Contains rest z → Contains ys z
  other : (z : Held) → Contains ys z → (z ≡ x) ⊎ Contains rest z
  gone : Contains rest x → ⊥

take_out : (ys : List Held) (x : Held) → Contains ys x → AreOnce ys → IsTakenOut ys x
take_out [] x h once = absurd (contains_nil x h)
take_out (y ∷ ys) x h once =
    elim (contains_cases y ys x h) [
      | inl same ↦ record {
        rest = ys;
        once = once.1;
        sum = sum_by-cons held_length y ys ∙ ap (λ (v : Held). held_length v + sum_by held_length ys) same;
        within = λ z k. contains_there y ys z k;
        other = λ z k. elim (contains_cases y ys z k) [ inl is ↦ inl (sym is ∙ same) | inr later ↦ inr later ];
        gone = λ k. once.0 (subst (Contains ys) (sym same) k);
      }
      | inr later ↦
          let t : IsTakenOut ys x = take_out ys x later once.1 in
          let cons = sum_by-cons held_length y ys in
          let more = sum_by-cons held_length y t.rest in
          let sum = t.sum in
          record {
            rest = y ∷ t.rest;
            once = (λ k. once.0 (t.within y k), t.once);
            sum = omega (arith, cons, more, sum);
            within = λ z k. elim (contains_cases y t.rest z k) [ inl is ↦ subst (Contains (y ∷ ys)) is (contains_here y ys) | inr k2 ↦ contains_there y ys z (t.within z k2) ];
            other = λ z k. elim (contains_cases y ys z k) [
              | inl is ↦ inr (subst (Contains (y ∷ t.rest)) is (contains_here y t.rest))
              | inr k2 ↦ elim (t.other z k2) [ inl is ↦ inl is | inr r ↦ inr (contains_there y t.rest z r) ]
            ];
            gone = λ k. elim (contains_cases y t.rest x k) [ inl is ↦ once.0 (subst (Contains ys) (sym is) later) | inr r ↦ t.gone r ];
          }
    ]

same_sum : (xs ys : List Held) → AreOnce xs → AreOnce ys → ((z : Held) → Contains xs z → Contains ys z) → ((z : Held) → Contains ys z → Contains xs z) → sum_by held_length xs ≡ sum_by held_length ys
same_sum [] [] a b to back = refl
same_sum [] (y ∷ ys) a b to back = absurd (contains_nil y (back y (contains_here y ys)))
same_sum (x ∷ xs) ys a b to back =
    let t : IsTakenOut ys x = take_out ys x (to x (contains_here x xs)) b in
    let ih = same_sum xs t.rest a.1 t.once
    (λ z k. elim (t.other z (to z (contains_there x xs z k))) [ inl is ↦ absurd (a.0 (subst (Contains xs) is k)) | inr r ↦ r ])
    (λ z r. elim (contains_cases x xs z (back z (t.within z r))) [ inl is ↦ absurd (t.gone (subst (Contains t.rest) (sym is) r)) | inr k ↦ k ]) in
    let cons = sum_by-cons held_length x xs in
    let sum = t.sum in omega (arith, ih, cons, sum)

-- ---- what is kept, as each change comes

-- a change in a slot that none of the changes outranks counts
abbrev pub IsKeptWith : List Held → Option Held → ℕ → ℕ → Type 0
IsKeptWith changes None others all = all ≡ others
IsKeptWith changes (Some y) others all = (IsOutrankedBy changes y × (all ≡ others)) ⊎ ((IsOutrankedBy changes y → ⊥) × (all ≡ held_length y + others))

-- the changes that none of the others outranks have this length
abbrev pub AreKept : List Held → List (Spot × Option Held) → ℕ → Type 0
AreKept changes [] all = all ≡ 0
AreKept changes (e ∷ es) all = (rest : ℕ) × AreKept changes es rest × IsKeptWith changes e.1 rest all

keep_one : (o : Option Held) (rest : ℕ) → IsKeptWith [] o rest (sum_by held_length (option_to_list o) + rest)
keep_one None rest = omega arith
keep_one (Some y) rest = let one = sum_by-cons held_length y [] in inr (λ k. contains_nil k.0 k.1, omega (arith, one))

pub kept_start : (es : List (Spot × Option Held)) → AreKept [] es (sum_by held_length (changes_of es))
kept_start [] = refl
kept_start (e ∷ es) =
    (sum_by held_length (changes_of es), kept_start es, subst (IsKeptWith [] e.1 (sum_by held_length (changes_of es))) (sym (sum_changes e es)) (keep_one e.1 (sum_by held_length (changes_of es))))

-- what stays once x has come too
pub record IsKeptAfter (front : List Held) (x : Held) (es : List (Spot × Option Held)) (before lost : ℕ) : Type 0 where
  pub after : ℕ
  pub kept : AreKept (front ++ x ∷ []) es after
  pub sum : before ≡ lost + after

outranked_more : (front : List Held) (x y : Held) → IsOutrankedBy front y → IsOutrankedBy (front ++ x ∷ []) y
outranked_more front x y (z, here, over) = (z, Contains-append_left front (x ∷ []) z here, over)

outranked_cases : (front : List Held) (x y : Held) → IsOutrankedBy (front ++ x ∷ []) y → IsOutrankedBy front y ⊎ Outranks x y
outranked_cases front x y (z, here, over) =
    elim (Contains-push_cases front x z here) [ inl before ↦ inl (z, before, over) | inr same ↦ inr (subst (λ (v : Held). Outranks v y) (sym same) over) ]

kept_one : (front : List Held) (x : Held) (o : Option Held) (ra rl rb a l : ℕ) → IsKeptWith front o ra a → IsCountedWith (IsNewlyOutranked front x) o rl l → ra ≡ rl + rb → (b : ℕ) × IsKeptWith (front ++ x ∷ []) o rb b × (a ≡ l + b)
kept_one front x None ra rl rb a l kept lost sum = (rb, refl, omega (arith, kept, lost, sum))
kept_one front x (Some y) ra rl rb a l (inl (over, e)) (inl (new, f)) sum = absurd (new.1 over)
kept_one front x (Some y) ra rl rb a l (inl (over, e)) (inr (old, f)) sum = (rb, inl (outranked_more front x y over, refl), omega (arith, e, f, sum))
kept_one front x (Some y) ra rl rb a l (inr (free, e)) (inl (new, f)) sum = (rb, inl ((x, Contains-push front x, new.0), refl), omega (arith, e, f, sum))
kept_one front x (Some y) ra rl rb a l (inr (free, e)) (inr (old, f)) sum =
    (held_length y + rb, inr (λ k. elim (outranked_cases front x y k) [ inl before ↦ free before | inr over ↦ old (over, free) ], refl), omega (arith, e, f, sum))

pub kept_step : (front : List Held) (x : Held) (es : List (Spot × Option Held)) (a l : ℕ) → AreKept front es a → IsLengthOf (IsNewlyOutranked front x) es l → IsKeptAfter front x es a l
kept_step front x [] a l kept lost = record { after = 0; kept = refl; sum = omega (arith, kept, lost) }
kept_step front x (e ∷ es) a l (ra, more, one) (rl, fewer, lost) =
    let ih : IsKeptAfter front x es ra rl = kept_step front x es ra rl more fewer in
    let f = kept_one front x e.1 ra rl ih.after a l one lost ih.sum in
    record { after = f.0; kept = (ih.after, ih.kept, f.1); sum = f.2 }

pub kept_next : (changes : List Held) (i : ℕ) (x : Held) (es : List (Spot × Option Held)) (a l : ℕ) → i < length changes → x ≡ get_or changes i x → AreKept (take i changes) es a → IsLengthOf (IsNewlyOutranked (take i changes) x) es l → AreKept (take (i + 1) changes) es (a - l)
kept_next changes i x es a l below is kept lost =
    let s = kept_step (take i changes) x es a l kept lost in
    let sum = s.sum in
    subst (AreKept (take (i + 1) changes) es) (let e : s.after ≡ a - l = omega (arith, sum) in e)
    (subst (λ (c : List Held). AreKept c es s.after) (sym (front_more changes i x below is)) s.kept)

-- what goes was kept
pub kept_most : (front : List Held) (x : Held) (es : List (Spot × Option Held)) (a l : ℕ) → AreKept front es a → IsLengthOf (IsNewlyOutranked front x) es l → l ≤ a
kept_most front x es a l kept lost = let s = kept_step front x es a l kept lost in let sum = s.sum in omega (arith, sum)

part_first : (G : Held → Type 0) (xs : List Held) (x : Held) (a b : ℕ) → (Contains xs x → ⊥) → IsPartLength G xs a → (G x → ⊥) → b ≡ held_length x + a → IsPartLength G (x ∷ xs) b
part_first G xs x a b new p free e =
    let cons = sum_by-cons held_length x p.part in
    let more = sum_by-cons held_length x xs in
    let long = p.long in
    let most = p.most in
    record {
      part = x ∷ p.part;
      once = (λ h. new (p.within x h).0, p.once);
      within = λ y h. elim (contains_cases x p.part y h) [
        | inl same ↦ (subst (Contains (x ∷ xs)) same (contains_here x xs), subst (λ (v : Held). G v → ⊥) same free)
        | inr later ↦ (contains_there x xs y (p.within y later).0, (p.within y later).1)
      ];
      all = λ y h. elim (contains_cases x xs y h) [
        | inl same ↦ inl (subst (Contains (x ∷ p.part)) same (contains_here x p.part))
        | inr later ↦ elim (p.all y later) [ inl k ↦ inl (contains_there x p.part y k) | inr g ↦ inr g ]
      ];
      long = omega (arith, e, cons, long);
      most = omega (arith, e, more, most);
    }

part_without : (G : Held → Type 0) (xs : List Held) (x : Held) (a b : ℕ) → IsPartLength G xs a → G x → b ≡ a → IsPartLength G (x ∷ xs) b
part_without G xs x a b p told e =
    let more = sum_by-cons held_length x xs in
    let long = p.long in
    let most = p.most in
    record {
      part = p.part;
      once = p.once;
      within = λ y h. (contains_there x xs y (p.within y h).0, (p.within y h).1);
      all = λ y h. elim (contains_cases x xs y h) [ inl same ↦ inr (subst G same told) | inr later ↦ p.all y later ];
      long = omega (arith, e, long);
      most = omega (arith, e, more, most);
    }

kept_part_one : (changes : List Held) (o : Option Held) (xs : List Held) (a b : ℕ) → AreOnce (option_to_list o ++ xs) → IsPartLength (IsOutrankedBy changes) xs a → IsKeptWith changes o a b → IsPartLength (IsOutrankedBy changes) (option_to_list o ++ xs) b
kept_part_one changes None xs a b once p e = subst (IsPartLength (IsOutrankedBy changes) xs) (sym e) p
kept_part_one changes (Some y) xs a b once p (inl (over, e)) = part_without (IsOutrankedBy changes) xs y a b p over e
kept_part_one changes (Some y) xs a b once p (inr (free, e)) = part_first (IsOutrankedBy changes) xs y a b once.0 p free e

once_later : (o : Option Held) (xs : List Held) → AreOnce (option_to_list o ++ xs) → AreOnce xs
once_later None xs once = once
once_later (Some y) xs once = once.1

kept_part : (changes : List Held) (es : List (Spot × Option Held)) (n : ℕ) → AreOnce (changes_of es) → AreKept changes es n → IsPartLength (IsOutrankedBy changes) (changes_of es) n
kept_part changes [] n once e = subst (IsPartLength (IsOutrankedBy changes) []) (sym e) (part_start (IsOutrankedBy changes))
kept_part changes (e ∷ es) n once (rest, more, one) =
    kept_part_one changes e.1 (changes_of es) rest n once (kept_part changes es rest (once_later e.1 (changes_of es) once) more) one

pub kept_end : (changes : List Held) (es : List (Spot × Option Held)) (n : ℕ) → AreInOrder (changes_of es) → AreKept changes es n → IsPartLength (IsOutrankedBy changes) (changes_of es) n
kept_end changes es n ordered kept = kept_part changes es n (once_ordered (changes_of es) ordered) kept

-- ---- both parts

stays_free : (kept : List Held) (z : Held) → AreApart kept → Contains kept z → (y : Held) → Outranks y z → IsReachedBy kept y → ⊥
stays_free kept z apart here y over (inl there) = apart y z there here over
stays_free kept z apart here y over (inr (w, there, higher)) = apart w z there here (Outranks_trans w y z higher over)

pub parts_length : (held incoming : List Held) (a b n : ℕ) → AreApart held → AreApart incoming → IsPartLength (IsOutrankedBy incoming) held a → IsPartLength (IsReachedBy held) incoming b → n ≡ 4 + a + b → IsMergedLength held incoming n
parts_length held incoming a b n old new p q e merged c ordered =
    let kept : (z : Held) → Contains merged z → Contains held z → Contains p.part z =
    λ z k h. elim (p.all z h) [ inl here ↦ here | inr over ↦ absurd (stays_free merged z c.apart k over.0 over.2 (c.reached over.0 (inr over.1))) ] in
    let to : (z : Held) → Contains merged z → Contains (p.part ++ q.part) z =
    λ z k. elim (c.within z k) [
      | inl h ↦ Contains-append_left p.part q.part z (kept z k h)
      | inr i ↦ elim (q.all z i) [
        | inl here ↦ Contains-append_right p.part q.part z here
        | inr (inl h) ↦ Contains-append_left p.part q.part z (kept z k h)
        | inr (inr over) ↦ absurd (stays_free merged z c.apart k over.0 over.2 (c.reached over.0 (inl over.1)))
      ]
    ] in
    let from_held : (z : Held) → Contains p.part z → Contains merged z =
    λ z k. elim (c.reached z (inl (p.within z k).0)) [
      | inl here ↦ here
      | inr (w, here, over) ↦ elim (c.within w here) [ inl h ↦ absurd (old w z h (p.within z k).0 over) | inr i ↦ absurd ((p.within z k).1 (w, i, over)) ]
    ] in
    let from_new : (z : Held) → Contains q.part z → Contains merged z =
    λ z k. elim (c.reached z (inr (q.within z k).0)) [
      | inl here ↦ here
      | inr (w, here, over) ↦ elim (c.within w here) [ inl h ↦ absurd ((q.within z k).1 (inr (w, h, over))) | inr i ↦ absurd (new w z i (q.within z k).0 over) ]
    ] in
    let same = same_sum merged (p.part ++ q.part) (once_ordered merged ordered)
    (once_both p.part q.part p.once q.once (λ z k l. (q.within z l).1 (inl (p.within z k).0))) to
    (λ z k. elim (Contains-append_cases p.part q.part z k) [ inl l ↦ from_held z l | inr r ↦ from_new z r ]) in
    let sum = sum_by-append held_length p.part q.part in
    let first = p.long in
    let second = q.long in omega (arith, same, sum, first, second, e)

pub room_at : (xs : List Held) (i : ℕ) (x : Held) → i < length xs → x ≡ get_or xs i x → sum_by held_length (take i xs) + held_length x ≤ sum_by held_length xs
room_at xs i x below is =
    let whole = ap (sum_by held_length) (split_at xs i x below is) in
    let sum = sum_by-append held_length (take i xs) (x ∷ drop (i + 1) xs) in
    let cons = sum_by-cons held_length x (drop (i + 1) xs) in omega (arith, whole, sum, cons)
