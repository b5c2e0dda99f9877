-- Counts of faults, and how many doors are out.
use Rattle.std.proofs.Common.{◌≡◌, ℕ, suc, ◌+◌, ◌*◌, ◌≤◌, Some, None, List, [], ◌∷◌, ◌++◌, length, inl, inr, refl, sym, ap, subst, arith}
use Rattle.std.specs.Prelude.{◌↔◌, Option, Vec}
use Rattle.std.specs.List.{AllByRecursion}
use Rattle.std.specs.Option.{option_map}
use Rattle.std.specs.declared.alloc.Global.{Global}
use Rattle.std.proofs.lemmas.Bool.{cases_lt}
use Rattle.std.proofs.lemmas.List.{length-append}
use Rattle.cs_base.specs.Faults.{HasRisen}
use Rattle.cs_doors.specs.Lending.{HasLent}
use Rattle.served_doors.specs.Ledger.{Ledger, GivesMore, TakesBack, by_node, with_node}
use Rattle.served_doors.specs.Opening.{CloseAgain}
use Rattle.served_cluster.specs.Giving.{AreBackBut}

-- ---- counts of faults

-- a count that rose in between has risen
pub risen_within : (a b c d : ℕ) → a ≤ b → b ≤ c → HasRisen b c → c ≤ d → HasRisen a d
risen_within a b c d p q (inl lt) r = inl (omega arith)
risen_within a b c d p q (inr top) r = elim (cases_lt a d) [ inl less ↦ inl less | inr not_less ↦ inr (omega arith) ]

-- ---- doors that are out

module _ {X : Type 0} where
  more_out : (given : Option ℕ) (returned : Option (List X)) (count k : ℕ) → HasLent k given returned ↔ HasLent (k + count) (option_map (λ n. n + count) given) returned
  more_out None returned count k = (λ h. tt, λ h. tt)
  more_out (Some n) None count k = (λ h. tt, λ h. tt)
  more_out (Some n) (Some back) count k = (λ h. omega (arith, h), λ h. omega (arith, h))

  fewer_out : (given : Option ℕ) (returned : Option (List X)) (back : List X) (count k : ℕ) → length back ≡ count → HasLent (k + count) given returned ↔ HasLent k given (option_map (λ (xs : List X). xs ++ back) returned)
  fewer_out None returned back count k long = (λ h. tt, λ h. tt)
  fewer_out (Some n) None back count k long = (λ h. tt, λ h. tt)
  fewer_out (Some n) (Some old) back count k long = (λ h. omega (arith, h, long, length-append old back), λ h. omega (arith, h, long, length-append old back))

module _ {D : Type 0} where
  abbrev Lent : ℕ → Ledger D → Type 0
  Lent k book = HasLent k book.given book.returned

  given_out : (count : ℕ) (old new : Ledger D) → GivesMore count old new → (k : ℕ) → Lent k old ↔ Lent (k + count) new
  given_out count old new h k =
      subst (λ (returned : Option (List (ℕ × D))). Lent k old ↔ HasLent (k + count) new.given returned) (sym h.returned)
      (subst (λ (given : Option ℕ). Lent k old ↔ HasLent (k + count) given old.returned) (sym h.given) (more_out old.given old.returned count k))

  pub back_but : (faults : D → ℕ) (back : List (ℕ × D)) (count : ℕ) (old new : Ledger D) → length back ≡ count → TakesBack faults back old new → AreBackBut count old new
  back_but faults back count old new long h k =
      subst (λ (returned : Option (List (ℕ × D))). Lent (k + count) old ↔ HasLent k new.given returned) (sym h.returned)
      (subst (λ (given : Option ℕ). Lent (k + count) old ↔ HasLent k given (option_map (λ (doors : List (ℕ × D)). doors ++ back) old.returned)) (sym h.given) (fewer_out old.given old.returned back count k long))

  -- so many were given, and are back
  pub all_back : (count : ℕ) (old mid new : Ledger D) → GivesMore count old mid → AreBackBut count mid new → AreBackBut 0 old new
  all_back count old mid new gives back k =
      let e : k + 0 ≡ k = omega arith in
      let first = given_out count old mid gives k in let then = back k in
      subst (λ (j : ℕ). Lent j old ↔ Lent k new) (sym e) (λ h. then.0 (first.0 h), λ h. first.1 (then.1 h))

  pub closed_again : (Fresh : D → Type 0) (nodes each : ℕ) (old new : Ledger D) → CloseAgain Fresh nodes each old new → AreBackBut 0 old new
  closed_again Fresh nodes each old new h k =
      let e : k + 0 ≡ k = omega arith in
      let back = by_node 0 h.opened in
      let first = more_out old.given old.returned (length back) k in
      let then = fewer_out (option_map (λ n. n + length back) old.given) old.returned back (length back) k refl in
      subst (λ (j : ℕ). Lent j old ↔ Lent k new) (sym e)
      (subst (λ (returned : Option (List (ℕ × D))). Lent k old ↔ HasLent k new.given returned) (sym h.returned)
      (subst (λ (given : Option ℕ). Lent k old ↔ HasLent k given (option_map (λ (doors : List (ℕ × D)). doors ++ back) old.returned)) (sym h.given)
      (λ l. then.0 (first.0 l), λ l. first.1 (then.1 l))))

  pub none_back : (book book' : Ledger D) → book' ≡ book → AreBackBut 0 book book'
  none_back book book' same k =
      let e : k + 0 ≡ k = omega arith in
      subst (λ (j : ℕ). Lent j book ↔ Lent k book') (sym e) (subst (λ (b : Ledger D). Lent k book ↔ Lent k b) (sym same) (λ l. l, λ l. l))

-- ---- doors of nodes, in a list for each

module _ {D : Type 0} where
  node_long : (n : ℕ) (doors : List D) → length (with_node n doors) ≡ length doors
  node_long n [] = refl
  node_long n (door ∷ doors) = ap suc (node_long n doors)

  -- so many lists of sixteen
  pub by_node_long : (n : ℕ) (lists : List (Vec D Global)) → AllByRecursion (λ (l : Vec D Global). length l.items ≡ 16) lists → length (by_node n lists) ≡ length lists * 16
  by_node_long n [] all = refl
  by_node_long n (l ∷ lists) all =
      let here = node_long n l.items in let rest = by_node_long (n + 1) lists all.1 in let sixteen = all.0 in
      omega (arith, length-append (with_node n l.items) (by_node (n + 1) lists), here, rest, sixteen)

  module _ (P : D → Type 0) where
    split_all : (n : ℕ) (doors : List D) (more : List (ℕ × D)) → AllByRecursion (λ (x : ℕ × D). P x.1) (with_node n doors ++ more) → AllByRecursion P doors × AllByRecursion (λ (x : ℕ × D). P x.1) more
    split_all n [] more all = (tt, all)
    split_all n (door ∷ doors) more all = let rest = split_all n doors more all.1 in ((all.0, rest.0), rest.1)

    pub by_node_all : (n : ℕ) (lists : List (Vec D Global)) → AllByRecursion (λ (x : ℕ × D). P x.1) (by_node n lists) → AllByRecursion (λ (l : Vec D Global). AllByRecursion P l.items) lists
    by_node_all n [] all = tt
    by_node_all n (l ∷ lists) all = let both = split_all n l.items (by_node (n + 1) lists) all in (both.0, by_node_all (n + 1) lists both.1)
