-- What the calls of a store in memory make of its files.
use Rattle.std.proofs.Common.{◌≡◌, inl, inr, ℕ, zero, suc, ◌+◌, ◌<◌, ◌≤◌, min, List, [], ◌∷◌, ◌++◌, length, get_or, set, take, drop, refl, sym, ◌∙◌, ap, subst, arith, length-append, length-take}
use Rattle.std.proofs.lemmas.Bool.{cases_lt}
use Rattle.std.proofs.lemmas.List.{get_or-set_same, get_or-set_other, get_or_read, length-map, take_all, drop_all, drop_at, length-take-le}
use Rattle.cs_store.specs.declared.mem.MemStore.{MemStore}
use Rattle.cs_store.specs.Disk.{Disk, overwritten, Torn, Cut, Stays, Only, may_leave, IsSettled, Passes}
use Rattle.cs_store.specs.Mem.{disk_of, IsSameDisk}
use Rattle.cs_store.specs.declared.mem_file.Outcome.{Outcome}
use Rattle.cs_store.specs.Images.{Images, MayLeave, complement, quiet, settled, written, shortened, untouched, Becomes}
use Rattle.cs_store.specs.MemFile.{Content, nothing}
use Rattle.cs_store.specs.Past.{State, file_at, image_at, LeftAt, disk_at}
use Rattle.cs_store.proofs.MemLemmas.{length-overwritten, take-overwritten}
use Rattle.cs_store.proofs.Crashes.{torn_none, cut_none}
use Rattle.cs_store.proofs.Pasts.{now_is, change_passes, passes_more, named, quiet_leaves, settled_leaves}

-- a write that went through is one of its own outcomes
torn_written : (at : ℕ) (bytes old : List ℕ) → at ≤ length old → Torn at (length bytes) old (overwritten old at bytes)
torn_written at bytes old within =
    let n = length bytes in
    let new = overwritten old at bytes in
    let size = length-overwritten old at bytes within in
    let low : min at (length old) ≡ at = omega (arith, within) in
    record {
      no_shorter = omega (arith, size);
      no_longer = omega (arith, size);
      before = ap (λ (k : ℕ). take k new) low ∙ take-overwritten at old at bytes (omega arith) within;
      after = elim (cases_lt (length old) (at + n)) [
        | inl past ↦ drop_all (at + n) (take (length old) new) (omega (arith, length-take (length old) new)) ∙ sym (drop_all (at + n) old (omega arith))
        | inr inside ↦
            ap (λ (l : List ℕ). drop (at + n) l) (take_all (length old) new (omega (arith, size)))
            ∙ drop_at (take at old ++ bytes) (drop (at + n) old) (at + n) (omega (arith, length-append (take at old) bytes, length-take-le at old within))
      ];
    }

cut_done : (n : ℕ) (old : List ℕ) → Cut n old (take n old)
cut_done n old = record {
  no_shorter = omega (arith, length-take n old);
  no_longer = omega (arith, length-take n old);
  before = take_all (min n (length old)) (take n old) (omega (arith, length-take n old));
}

pub written_step : (at : ℕ) (bytes : List ℕ) (old : Images) → at ≤ length old.kept → length old.torn ≡ length old.kept → (c : List ℕ) → MayLeave (written at bytes old) c → (d : List ℕ) × MayLeave old d × Torn at (length bytes) d c
written_step at bytes old within size c (inl is) = (old.kept, inl refl, subst (λ (l : List ℕ). Torn at (length bytes) old.kept l) (sym is) (torn_written at bytes old.kept within))
written_step at bytes old within size c (inr (inl is)) = (old.lost, inr (inl refl), subst (λ (l : List ℕ). Torn at (length bytes) old.lost l) (sym is) (torn_none at (length bytes) old.lost))
written_step at bytes old within size c (inr (inr is)) =
    let step : Torn at (length bytes) old.torn (overwritten old.torn at (complement bytes)) =
    subst (λ (n : ℕ). Torn at n old.torn (overwritten old.torn at (complement bytes))) (length-map bytes _) (torn_written at (complement bytes) old.torn (omega (arith, within, size))) in
    (old.torn, inr (inr refl), subst (λ (l : List ℕ). Torn at (length bytes) old.torn l) (sym is) step)

pub cut_step : (n : ℕ) (old : Images) (c : List ℕ) → MayLeave (shortened n old) c → (d : List ℕ) × MayLeave old d × Cut n d c
cut_step n old c (inl is) = (old.kept, inl refl, subst (λ (l : List ℕ). Cut n old.kept l) (sym is) (cut_done n old.kept))
cut_step n old c (inr (inl is)) = (old.lost, inr (inl refl), subst (λ (l : List ℕ). Cut n old.lost l) (sym is) (cut_none n old.lost))
cut_step n old c (inr (inr is)) = (old.torn, inr (inr refl), subst (λ (l : List ℕ). Cut n old.torn l) (sym is) (cut_done n old.torn))

-- a settled file holds nothing that it might not have held before
pub settled_step : (outcome : Outcome) (old : Images) (c : List ℕ) → MayLeave (settled outcome old) c → (d : List ℕ) × MayLeave old d × Stays d c
settled_step outcome old c may = (c, settled_leaves outcome old (settled outcome old) c refl may, refl)

-- an item that a call reads
pub item_is : (were old : List Content) (place f : ℕ) (item : Content) → were ≡ old → place ≡ f → place < length were → item ≡ get_or were place item → item ≡ file_at old f
item_is were old place f item same at within reads =
    get_or_read were place item within reads nothing ∙ ap (λ (files : List Content). get_or files place nothing) same ∙ ap (λ (k : ℕ). get_or old k nothing) at

-- a call changes an item
pub item_becomes : (f place : ℕ) (here : Images → Images) (were old : List Content) (item x : Content) → place ≡ f → were ≡ old → place < length were → item ≡ get_or were place item → x.images ≡ here item.images
    → Becomes f here untouched (image_at old) (image_at (set were place x))
item_becomes f place here were old item x at same within reads is =
    let inside : f < length old = omega (arith, at, within, ap length same) in
    let named : set old f x ≡ set were place x = sym (ap (λ (files : List Content). set files place x) same ∙ ap (λ (k : ℕ). set old k x) at) in
    let was : item ≡ file_at old f = item_is were old place f item same at within reads in
    subst (λ (files : List Content). Becomes f here untouched (image_at old) (image_at files)) named (record {
      file = ap (λ (y : Content). y.images) (get_or-set_same old f x nothing inside) ∙ is ∙ ap (λ (y : Content). here y.images) was;
      others = λ k other. ap (λ (y : Content). y.images) (get_or-set_other old f k x nothing other);
    })

-- and a crash may leave what it makes of the file
pub becomes_passes : (f : ℕ) (step : List ℕ → List ℕ → Type 0) (here : Images → Images) (past after : List State) (s : State) (now : List Content) → after ≡ past ++ s ∷ [] → Becomes f here untouched (image_at s.0.items) (image_at now)
    → ((c : List ℕ) → MayLeave (here (image_at s.0.items f)) c → (d : List ℕ) × MayLeave (image_at s.0.items f) d × step d c) → Passes f step (disk_at past s.0.items) (disk_at after now)
becomes_passes f step here past after s now kept becomes steps =
    named f step (disk_at past s.0.items) (past ++ s ∷ []) after now now kept refl
    (change_passes f step past s now
    (λ c may. steps c (subst (λ (x : Images). MayLeave x c) becomes.file may))
    (λ k c other may. subst (λ (x : Images). MayLeave x c) (becomes.others k other) may))

same_left : (past : List State) (old now : List Content) → ((k : ℕ) → image_at now k ≡ image_at old k) → (t k : ℕ) (c : List ℕ) → LeftAt past now t k c → LeftAt past old t k c
same_left [] old now same t k c it = subst (λ (x : Images). MayLeave x c) (same k) it
same_left (p ∷ past) old now same zero k c it = it
same_left (p ∷ past) old now same (suc t) k c it = same_left past old now same t k c it

-- a call changes no image
pub same_passes : (f : ℕ) (step : List ℕ → List ℕ → Type 0) (past : List State) (old now : List Content) → ((k : ℕ) → image_at now k ≡ image_at old k) → Passes f step (disk_at past old) (disk_at past now)
same_passes f step past old now same = record {
  on = record { later = omega arith; kept = λ t k c le. (same_left past old now same t k c, same_left past now old (λ j. sym (same j)) t k c) };
  file = λ t c since upto it. absurd (omega arith);
  others = λ t k c other since upto it. absurd (omega arith);
}

-- the same from a store with the same disk
pub disk_from : (a b : MemStore) → IsSameDisk a b → disk_of b ≡ disk_of a
disk_from a b same = λ i. disk_at (same.1 i).items (same.0 i).items

pub passes_from : (f : ℕ) (step : List ℕ → List ℕ → Type 0) (a b : MemStore) (new : Disk) → IsSameDisk a b → Passes f step (disk_of b) new → Passes f step (disk_of a) new
passes_from f step a b new same passes = subst (λ (d : Disk). Passes f step d new) (disk_from a b same) passes

-- a call begins, does something and ends
pub call_passes : (f : ℕ) (step : List ℕ → List ℕ → Type 0) (a b mid now : MemStore) → IsSameDisk a b → Passes f step (disk_of b) (disk_of mid) → Passes f Stays (disk_of mid) (disk_of now) → ((c : List ℕ) → step c c) → Passes f step (disk_of a) (disk_of now)
call_passes f step a b mid now same does ends none = passes_more f step (disk_of a) (disk_of mid) (disk_of now) (passes_from f step a b (disk_of mid) same does) ends none

-- a quiet file is on the disk
pub quiet_at : (past : List State) (files : List Content) (f : ℕ) (bytes : List ℕ) → image_at files f ≡ quiet bytes → Only bytes (may_leave (disk_at past files) f)
quiet_at past files f bytes is c left =
    let now = subst (λ (now : List Content). MayLeave (image_at now f) c) (now_is past files (length past) (omega arith)) left in
    quiet_leaves bytes c (subst (λ (x : Images). MayLeave x c) is now)

-- files that are all quiet are settled
pub all_settled_at : (past : List State) (files : List Content) (bytes : ℕ → List ℕ) → ((k : ℕ) → image_at files k ≡ quiet (bytes k)) → (k : ℕ) → IsSettled k (disk_at past files)
all_settled_at past files bytes is k c left = quiet_at past files k (bytes k) (is k) c left ∙ sym (ap (λ (x : Images). x.kept) (is k))
