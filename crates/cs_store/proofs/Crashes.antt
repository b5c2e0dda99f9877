-- The lemmas of the disk model for those who use a store: how what a crash may leave goes on from one call to the next.
use Rattle.std.proofs.Common.{◌≡◌, ◌≢◌, inl, inr, ℕ, ◌+◌, List, length, drop, sym, ◌∙◌, ap, subst, arith}
use Rattle.std.proofs.lemmas.Bool.{cases_lt, cases_eq}
use Rattle.std.proofs.lemmas.List.{take_all, take_min}
use Rattle.cs_store.specs.Disk.{Disk, Torn, Cut, Stays, may_leave, IsSettled, MayStay, SameFiles, GoesOn, Passes, LeavesOnly, LeavesAll}

-- a write that changed nothing yet, and a cut
pub torn_none : (at n : ℕ) (file : List ℕ) → Torn at n file file
torn_none at n file = record {
  no_shorter = omega arith;
  no_longer = omega arith;
  before = take_min at file;
  after = ap (λ (l : List ℕ). drop (at + n) l) (take_all (length file) file (omega arith));
}

pub cut_none : (n : ℕ) (file : List ℕ) → Cut n file file
cut_none n file = record { no_shorter = omega arith; no_longer = omega arith; before = take_min n file }

-- nothing happened
pub on_none : (disk : Disk) → GoesOn disk disk
on_none disk = record { later = omega arith; kept = λ t k c le. (λ it. it, λ it. it) }

-- first this, then that
pub on_then : (old mid new : Disk) → GoesOn old mid → GoesOn mid new → GoesOn old new
on_then old mid new first second =
    let one = first.later in
    let two = second.later in
    record {
      later = omega (arith, one, two);
      kept = λ t k c le. (
        λ it. (first.kept t k c le).0 ((second.kept t k c (omega (arith, le, one))).0 it),
        λ it. (second.kept t k c (omega (arith, le, one))).1 ((first.kept t k c le).1 it),
      );
    }

-- what might have been left at the first of two moments is what may be left at first
was_left : (old new : Disk) (t k : ℕ) (c : List ℕ) → GoesOn old new → t ≡ old.moment → new.left t k c → may_leave old k c
was_left old new t k c on at it = subst (λ (u : ℕ). old.left u k c) at ((on.kept t k c (omega (arith, at))).0 it)

-- one call on a file that is on the disk
pub first_call : (f : ℕ) (old new : Disk) (step : List ℕ → List ℕ → Type 0) → step (old.seen f) (old.seen f) → IsSettled f old → Passes f step old new → LeavesOnly f (step (old.seen f)) old new
first_call f old new step none settled passes = record {
  on = passes.on;
  file = λ t c from upto it. elim (cases_lt old.moment t) [
    | inl since ↦
        let d = passes.file t c since upto it in
        subst (λ (l : List ℕ). step l c) (settled d.0 d.1) d.2
    | inr same ↦
        let is : c ≡ old.seen f = settled c (was_left old new t f c passes.on (omega arith) it) in
        subst (λ (l : List ℕ). step (old.seen f) l) (sym is) none
  ];
  others = λ t k c other from upto it. elim (cases_lt old.moment t) [
    | inl since ↦ passes.others t k c other since upto it
    | inr same ↦ was_left old new t k c passes.on (omega arith) it
  ];
}

-- one call more that adds nothing new
pub call_more : (f : ℕ) (old mid new : Disk) (P : List ℕ → Type 0) → LeavesOnly f P old mid → Passes f Stays mid new → LeavesOnly f P old new
call_more f old mid new P so_far passes =
    let ends = so_far.on.later in
    record {
      on = on_then old mid new so_far.on passes.on;
      file = λ t c from upto it. elim (cases_lt mid.moment t) [
        | inl since ↦
            let d = passes.file t c since upto it in
            subst P (sym d.2) (so_far.file mid.moment d.0 ends (omega arith) d.1)
        | inr same ↦ so_far.file t c from same ((passes.on.kept t f c same).0 it)
      ];
      others = λ t k c other from upto it. elim (cases_lt mid.moment t) [
        | inl since ↦ so_far.others mid.moment k c other ends (omega arith) (passes.others t k c other since upto it)
        | inr same ↦ so_far.others t k c other from same ((passes.on.kept t k c same).0 it)
      ];
    }

-- what is left of one run and then of another that leaves no more
pub and_then : (f : ℕ) (old mid new : Disk) (P Q : List ℕ → Type 0) → LeavesOnly f P old mid → LeavesOnly f Q mid new → ((c : List ℕ) → Q c → P c) → LeavesOnly f P old new
and_then f old mid new P Q so_far more weaker =
    let ends = so_far.on.later in
    record {
      on = on_then old mid new so_far.on more.on;
      file = λ t c from upto it. elim (cases_lt mid.moment t) [
        | inl since ↦ weaker c (more.file t c (omega arith) upto it)
        | inr same ↦ so_far.file t c from same ((more.on.kept t f c same).0 it)
      ];
      others = λ t k c other from upto it. elim (cases_lt mid.moment t) [
        | inl since ↦ so_far.others mid.moment k c other ends (omega arith) (more.others t k c other (omega arith) upto it)
        | inr same ↦ so_far.others t k c other from same ((more.on.kept t k c same).0 it)
      ];
    }

pub weaker : (f : ℕ) (old new : Disk) (P Q : List ℕ → Type 0) → LeavesOnly f Q old new → ((c : List ℕ) → Q c → P c) → LeavesOnly f P old new
weaker f old new P Q only h = record { on = only.on; file = λ t c from upto it. h c (only.file t c from upto it); others = only.others }

-- a file that a call leaves as it was is as settled as before
pub settled_stays : (f : ℕ) (old new : Disk) → Passes f Stays old new → SameFiles old new → (k : ℕ) → IsSettled k old → IsSettled k new
settled_stays f old new passes same k settled c it = elim (cases_lt old.moment new.moment) [
  | inl since ↦ elim (cases_eq k f) [
    | inl is ↦
        let there : may_leave new f c = subst (λ (j : ℕ). may_leave new j c) is it in
        let d = passes.file new.moment c since (omega arith) there in
        let was : may_leave old k d.0 = subst (λ (j : ℕ). may_leave old j d.0) (sym is) d.1 in
        d.2 ∙ settled d.0 was ∙ sym (same k)
    | inr other ↦ settled c (passes.others new.moment k c other since (omega arith) it) ∙ sym (same k)
  ]
  | inr at_once ↦
      let ends = passes.on.later in
      settled c (was_left old new new.moment k c passes.on (omega (arith, at_once, ends)) it) ∙ sym (same k)
]

-- what a read gives at the end is among what a crash might have left
pub seen_has : (f : ℕ) (old new : Disk) (P : List ℕ → Type 0) → LeavesOnly f P old new → MayStay new → P (new.seen f)
seen_has f old new P only stays = let ends = only.on.later in only.file new.moment (new.seen f) ends (omega arith) (stays f)

-- a file that another one's calls left on the disk is there as it was
pub other_settled : (f : ℕ) (old new : Disk) (P : List ℕ → Type 0) → LeavesOnly f P old new → (k : ℕ) → k ≢ f → new.seen k ≡ old.seen k → IsSettled k old → IsSettled k new
other_settled f old new P only k other same settled c it = let ends = only.on.later in settled c (only.others new.moment k c other ends (omega arith) it) ∙ sym same

-- all files at once: one has what the calls leave of it, and each other one might have been left at first
pub files_left : (f : ℕ) (old new : Disk) (P : List ℕ → Type 0) → LeavesOnly f P old new → LeavesAll (λ files. P (files f) × ((k : ℕ) → k ≢ f → may_leave old k (files k))) old new
files_left f old new P only = record {
  on = only.on;
  files = λ t files from upto image. (only.file t (files f) from upto (image f), λ k other. only.others t k (files k) other from upto (image k));
}

-- the same of all files: first this, then that
pub all_then : (old mid new : Disk) (P : (ℕ → List ℕ) → Type 0) → LeavesAll P old mid → LeavesAll P mid new → LeavesAll P old new
all_then old mid new P first second = record {
  on = on_then old mid new first.on second.on;
  files = λ t files from upto image. elim (cases_lt mid.moment t) [
    | inl since ↦ second.files t files (omega arith) upto image
    | inr early ↦ first.files t files from early (λ k. (second.on.kept t k (files k) early).0 (image k))
  ];
}

pub all_weaker : (old new : Disk) (P Q : (ℕ → List ℕ) → Type 0) → LeavesAll Q old new → ((files : ℕ → List ℕ) → Q files → P files) → LeavesAll P old new
all_weaker old new P Q only h = record { on = only.on; files = λ t files from upto image. h files (only.files t files from upto image) }
