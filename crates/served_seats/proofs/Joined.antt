-- What the entries of passes with numbers of their own tell, once they are joined.
use Rattle.std.proofs.Common.{◌≡◌, ◌≢◌, ℕ, ◌+◌, List, [], ◌∷◌, ◌++◌, length, map, refl, ap, sym, ◌∙◌, append_assoc, append-nil, arith, eq-eqb, ne_eqb}
use Rattle.std.specs.List.{AllByRecursion, flat_map}
use Rattle.node_lock.specs.Histories.{StartsWith, entries_by}
use Rattle.node_lock.specs.Views.{PassView, joined_view}
use Rattle.node_lock.proofs.HistoryLaws.{entries_by-append, starts-same, starts-chain}
use Rattle.served_seats.specs.Seats.{AreApart, IsOwn, made_by, seats_in}

pub all_weaker : {A : Type 0} (P Q : A → Type 0) → ((x : A) → P x → Q x) → (xs : List A) → AllByRecursion P xs → AllByRecursion Q xs
all_weaker P Q f [] a = tt
all_weaker P Q f (x ∷ xs) a = (f x a.0, all_weaker P Q f xs a.1)

all_both : {A : Type 0} (P Q R : A → Type 0) → ((x : A) → P x → Q x → R x) → (xs : List A) → AllByRecursion P xs → AllByRecursion Q xs → AllByRecursion R xs
all_both P Q R f [] a b = tt
all_both P Q R f (x ∷ xs) a b = (f x a.0 b.0, all_both P Q R f xs a.1 b.1)

module _ {E : Type 0} where
  -- ---- entries under one number

  entries_own : (n : ℕ) (xs : List (ℕ × E)) → AllByRecursion (λ (x : ℕ × E). x.0 ≡ n) xs → entries_by n xs ≡ map (λ (x : ℕ × E). x.1) xs
  entries_own n [] own = refl
  entries_own n (x ∷ xs) own = rw (eq-eqb x.0 n own.0) (ap (λ (l : List E). x.1 ∷ l) (entries_own n xs own.1))

  entries_other : (n k : ℕ) (xs : List (ℕ × E)) → k ≢ n → AllByRecursion (λ (x : ℕ × E). x.0 ≡ k) xs → entries_by n xs ≡ []
  entries_other n k [] other own = refl
  entries_other n k (x ∷ xs) other own = rw (ne_eqb x.0 n (λ e. other (sym own.0 ∙ e))) (entries_other n k xs other own.1)

  -- what passes made, one after another
  abbrev pub mine_in : List (PassView E) → List (ℕ × E)
  mine_in vs = flat_map (λ (v : PassView E). v.mine) vs

  pub none_in : (n : ℕ) (vs : List (PassView E)) → AllByRecursion (λ (v : PassView E). v.number ≢ n) vs → AllByRecursion IsOwn vs → entries_by n (mine_in vs) ≡ []
  none_in n [] others own = refl
  none_in n (v ∷ vs) others own =
      entries_by-append n v.mine (mine_in vs)
      ∙ (ap (λ (l : List E). l ++ entries_by n (mine_in vs)) (entries_other n v.number v.mine others.0 own.0) ∙ none_in n vs others.1 own.1)

  pub each_in : (vs : List (PassView E)) → AreApart vs → AllByRecursion IsOwn vs → AllByRecursion (λ (v : PassView E). entries_by v.number (mine_in vs) ≡ made_by v) vs
  each_in [] apart own = tt
  each_in (v ∷ vs) apart own = (
    entries_by-append v.number v.mine (mine_in vs)
        ∙ (λ i. entries_own v.number v.mine own.0 i ++ none_in v.number vs apart.0 own.1 i)
        ∙ append-nil (made_by v),
    all_both (λ (w : PassView E). w.number ≢ v.number) (λ (w : PassView E). entries_by w.number (mine_in vs) ≡ made_by w) (λ (w : PassView E). entries_by w.number (mine_in (v ∷ vs)) ≡ made_by w)
        (λ w other here. entries_by-append w.number v.mine (mine_in vs)
        ∙ (ap (λ (l : List E). l ++ entries_by w.number (mine_in vs)) (entries_other w.number v.number v.mine (λ e. other (sym e)) own.0) ∙ here))
        vs apart.0 (each_in vs apart.1 own.1),
  )

  -- ---- passes that are joined one by one

  -- the pass has joined all but the rest
  pub record HasJoined (all : List (PassView E)) (v : PassView E) (rest : List (PassView E)) : Type 0 where
    pub seats : v.seats + seats_in rest ≡ seats_in all
    pub mine : v.mine ++ mine_in rest ≡ mine_in all
    pub seen : (history : List (ℕ × E)) → StartsWith history v.seen → AllByRecursion (λ (w : PassView E). StartsWith history w.seen) rest → AllByRecursion (λ (w : PassView E). StartsWith history w.seen) all

  pub joins_next : (all : List (PassView E)) (v w x : PassView E) (rest : List (PassView E))
      → HasJoined all v (w ∷ rest) → x ≡ joined_view v w → StartsWith x.seen v.seen → StartsWith x.seen w.seen → HasJoined all x rest
  joins_next all v w x rest was both seen told =
      let before = was.seats in
      let now : x.seats ≡ v.seats + w.seats = ap (λ (u : PassView E). u.seats) both in
      record {
        seats = omega arith;
        mine = ap (λ (u : PassView E). u.mine ++ mine_in rest) both ∙ append_assoc v.mine w.mine (mine_in rest) ∙ was.mine;
        seen = λ history here others. was.seen history (starts-chain history x.seen v.seen here seen) (starts-chain history x.seen w.seen here told, others);
      }

  -- the pass that has joined all knows what each of them had seen
  pub joins_all : {P : Type 0} (f : P → PassView E) (all : List (PassView E)) (v : PassView E) (rest : List P) → HasJoined all v (map f rest) → length rest ≡ 0
      → AllByRecursion (λ (w : PassView E). StartsWith v.seen w.seen) all
  joins_all f all v [] was none = was.seen v.seen (starts-same v.seen) tt
  joins_all f all v (p ∷ rest) was none = absurd (omega (arith, none))
