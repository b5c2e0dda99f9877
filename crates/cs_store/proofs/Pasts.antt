-- Histories of files in memory.
use Rattle.std.proofs.Common.{◌≡◌, ◌≢◌, inl, inr, ℕ, zero, suc, ◌+◌, ◌<◌, ◌≤◌, List, [], ◌∷◌, ◌++◌, length, refl, sym, ap, subst, arith, length-append}
use Rattle.std.proofs.lemmas.Bool.{cases_lt}
use Rattle.cs_store.specs.declared.mem_file.Outcome.{Outcome}
use Rattle.cs_store.specs.declared.mem_file.Outcome.TheVariants.{Kept, Lost, Torn}
use Rattle.cs_store.specs.Disk.{Disk, Stays, may_leave, Passes}
use Rattle.cs_store.specs.Images.{Images, MayLeave, outcome_of, quiet, settled}
use Rattle.cs_store.specs.MemFile.{Content}
use Rattle.cs_store.specs.Past.{State, files_at, image_at, LeftAt, disk_at}
use Rattle.cs_store.proofs.Crashes.{on_then}

same_before : (past : List State) (s : State) (now : List Content) (t : ℕ) → t ≤ length past → files_at (past ++ s ∷ []) now t ≡ files_at past s.0.items t
same_before [] s now zero le = refl
same_before [] s now (suc t) le = absurd (omega arith)
same_before (p ∷ past) s now zero le = refl
same_before (p ∷ past) s now (suc t) le = same_before past s now t (omega arith)

pub now_is : (past : List State) (now : List Content) (t : ℕ) → length past ≤ t → files_at past now t ≡ now
now_is [] now t le = refl
now_is (p ∷ past) now zero le = absurd (omega arith)
now_is (p ∷ past) now (suc t) le = now_is past now t (omega arith)

-- one change more, which the history keeps
pub change_passes : (f : ℕ) (step : List ℕ → List ℕ → Type 0) (past : List State) (s : State) (now : List Content)
    → ((c : List ℕ) → MayLeave (image_at now f) c → (d : List ℕ) × MayLeave (image_at s.0.items f) d × step d c)
    → ((k : ℕ) (c : List ℕ) → k ≢ f → MayLeave (image_at now k) c → MayLeave (image_at s.0.items k) c)
    → Passes f step (disk_at past s.0.items) (disk_at (past ++ s ∷ []) now)
change_passes f step past s now here there =
    let old = s.0.items in
    let after = past ++ s ∷ [] in
    let longer : length after ≡ length past + 1 = length-append past (s ∷ []) in
    let at_now : (t k : ℕ) (c : List ℕ) → length past < t → LeftAt after now t k c → MayLeave (image_at now k) c = λ t k c since it.
    subst (λ (files : List Content). MayLeave (image_at files k) c) (now_is after now t (omega (arith, longer))) it in
    let at_old : (k : ℕ) (c : List ℕ) → MayLeave (image_at old k) c → LeftAt past old (length past) k c = λ k c it.
    subst (λ (files : List Content). MayLeave (image_at files k) c) (sym (now_is past old (length past) (omega arith))) it in
    record {
      on = record {
        later = omega (arith, longer);
        kept = λ t k c le. (
          λ it. subst (λ (files : List Content). MayLeave (image_at files k) c) (same_before past s now t le) it,
          λ it. subst (λ (files : List Content). MayLeave (image_at files k) c) (sym (same_before past s now t le)) it,
        );
      };
      file = λ t c since upto it.
          let from = here c (at_now t f c since it) in
          (from.0, at_old f from.0 from.1, from.2);
      others = λ t k c other since upto it. at_old k c (there k c other (at_now t k c since it));
    }

-- one call, and then nothing new
pub passes_more : (f : ℕ) (step : List ℕ → List ℕ → Type 0) (old mid new : Disk) → Passes f step old mid → Passes f Stays mid new → ((c : List ℕ) → step c c) → Passes f step old new
passes_more f step old mid new first second none =
    let still : (k : ℕ) (c : List ℕ) → mid.moment ≤ old.moment → may_leave mid k c → may_leave old k c = λ k c upto it.
    let on = first.on.later in
    let at_first : mid.moment ≡ old.moment = omega (arith, on, upto) in
    (first.on.kept old.moment k c (omega arith)).0 (subst (λ (u : ℕ). mid.left u k c) at_first it) in
    record {
      on = on_then old mid new first.on second.on;
      file = λ t c since upto it. elim (cases_lt mid.moment t) [
        | inl more ↦
            let d = second.file t c more upto it in
            elim (cases_lt old.moment mid.moment) [
              | inl moved ↦
                  let e = first.file mid.moment d.0 moved (omega arith) d.1 in
                  (e.0, e.1, subst (λ (l : List ℕ). step e.0 l) (sym d.2) e.2)
              | inr early ↦ (d.0, still f d.0 early d.1, subst (λ (l : List ℕ). step d.0 l) (sym d.2) (none d.0))
            ]
        | inr upto_mid ↦ first.file t c since upto_mid ((second.on.kept t f c upto_mid).0 it)
      ];
      others = λ t k c other since upto it. elim (cases_lt mid.moment t) [
        | inl more ↦
            let was = second.others t k c other more upto it in
            elim (cases_lt old.moment mid.moment) [
              | inl moved ↦ first.others mid.moment k c other moved (omega arith) was
              | inr early ↦ still k c early was
            ]
        | inr upto_mid ↦ first.others t k c other since upto_mid ((second.on.kept t k c upto_mid).0 it)
      ];
    }

-- an outcome is one of those that a crash may leave
pub outcome_left : (outcome : Outcome) (file : Images) → MayLeave file (outcome_of outcome file)
outcome_left Kept file = inl refl
outcome_left Lost file = inr (inl refl)
outcome_left Torn file = inr (inr refl)

pub quiet_leaves : (bytes c : List ℕ) → MayLeave (quiet bytes) c → c ≡ bytes
quiet_leaves bytes c (inl kept) = kept
quiet_leaves bytes c (inr (inl lost)) = lost
quiet_leaves bytes c (inr (inr torn)) = torn

-- what a crash may leave of a settled file, it might have left before
pub settled_leaves : (outcome : Outcome) (old new : Images) (c : List ℕ) → new ≡ settled outcome old → MayLeave new c → MayLeave old c
settled_leaves outcome old new c by may =
    let is : c ≡ outcome_of outcome old = quiet_leaves (outcome_of outcome old) c (subst (λ (x : Images). MayLeave x c) by may) in
    subst (λ (l : List ℕ). MayLeave old l) (sym is) (outcome_left outcome old)

-- what is seen of a settled file is among what might have been left of it
pub settled_left : (outcome : Outcome) (past : List State) (old now : List Content) (k : ℕ) → image_at now k ≡ settled outcome (image_at old k) → LeftAt past old (length past) k (image_at now k).kept
settled_left outcome past old now k by =
    let left = subst (λ (l : List ℕ). MayLeave (image_at old k) l) (sym (ap (λ (x : Images). x.kept) by)) (outcome_left outcome (image_at old k)) in
    subst (λ (files : List Content). MayLeave (image_at files k) (image_at now k).kept) (sym (now_is past old (length past) (omega arith))) left

-- each file is settled
pub settle_passes : (f : ℕ) (outcome : Outcome) (past : List State) (s : State) (now : List Content) → ((k : ℕ) → image_at now k ≡ settled outcome (image_at s.0.items k))
    → Passes f Stays (disk_at past s.0.items) (disk_at (past ++ s ∷ []) now)
settle_passes f outcome past s now each =
    change_passes f Stays past s now
    (λ c may. (c, settled_leaves outcome (image_at s.0.items f) (image_at now f) c (each f) may, refl))
    (λ k c other may. settled_leaves outcome (image_at s.0.items k) (image_at now k) c (each k) may)

-- the same under other names of the history and the files after it
pub named : (f : ℕ) (step : List ℕ → List ℕ → Type 0) (disk : Disk) (after after' : List State) (now now' : List Content) → after' ≡ after → now' ≡ now → Passes f step disk (disk_at after now) → Passes f step disk (disk_at after' now')
named f step disk after after' now now' same_after same_now passes =
    subst (λ (h : List State). Passes f step disk (disk_at h now')) (sym same_after)
    (subst (λ (files : List Content). Passes f step disk (disk_at after files)) (sym same_now) passes)
