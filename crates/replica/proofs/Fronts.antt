-- What crashes leave, over one call and the next.
use Rattle.std.proofs.Common.{◌≡◌, inl, inr, ℕ, ◌≤◌, List, [], ◌∷◌, ◌++◌, refl, sym, ◌∙◌, ap, subst, arith}
use Rattle.std.proofs.lemmas.List.{append-nil, append_assoc}
use Rattle.cs_store.specs.Disk.{Disk, IsImage}
use Rattle.cs_store.proofs.Crashes.{on_none, all_then, all_weaker}
use Rattle.row_change.specs.declared.entry.LogItem.{LogItem}
use Rattle.durable_state.specs.State.{Durable, IsSameKept}
use Rattle.durable_state.specs.Keeping.{Commits, IsWithOrWithout}
use Rattle.replica.specs.Finding.{StandFor, AlwaysLeaves, IsSafe}
use Rattle.replica.specs.Calls.{CommitEach, IsAfterFront, Looked, Calls, CrashesLeaveAFront}
use Rattle.replica.specs.Calls.Calls.{none, looks, commits}

abbrev Meaning : Type 1
Meaning = (ℕ → List ℕ) → Durable → Type 0

-- ---- properties of what is kept

pub stand_more : (st : Meaning) (P Q : Durable → Type 0) → ((d : Durable) → P d → Q d) → (files : ℕ → List ℕ) → StandFor st P files → StandFor st Q files
stand_more st P Q to files h = record { kept = h.kept; stands = h.stands; one = to h.kept h.one }

pub leaves_more : (st : Meaning) (P Q : Durable → Type 0) (old new : Disk) → ((d : Durable) → P d → Q d) → AlwaysLeaves st P old new → AlwaysLeaves st Q old new
leaves_more st P Q old new to h = all_weaker old new (StandFor st Q) (StandFor st P) h (stand_more st P Q to)

pub leaves_on : (st : Meaning) (P : Durable → Type 0) (old mid new : Disk) → AlwaysLeaves st P old mid → AlwaysLeaves st P mid new → AlwaysLeaves st P old new
leaves_on st P old mid new first second = all_then old mid new (StandFor st P) first second

same_moment : (a t : ℕ) → a ≤ t → t ≤ a → a ≡ t
same_moment a t lo hi = omega (arith, lo, hi)

-- where nothing is called
pub leaves_still : (st : Meaning) (d : Durable) (disk : Disk) → IsSafe st d disk → AlwaysLeaves st (IsSameKept d) disk disk
leaves_still st d disk safe = record {
  on = on_none disk;
  files = λ t files from upto image. safe files (subst (λ (n : ℕ). IsImage disk n files) (sym (same_moment disk.moment t from upto)) image);
}

-- at the end of a call that changed nothing
pub safe_after : (st : Meaning) (d d' : Durable) (old new : Disk) → AlwaysLeaves st (IsSameKept d) old new → d' ≡ d → IsSafe st d' new
safe_after st d d' old new h same files image =
    let later = h.on.later in
    subst (λ (x : Durable). StandFor st (IsSameKept x) files) (sym same) (h.files new.moment files later (omega arith) image)

-- ---- room and then a commit

-- a call that changed nothing, before a commit that is not made
pub looked_leaves : {R : Type 0} (st : Meaning) (disk : R → Disk) (durable : R → Durable) (entry : List LogItem) (old new : R) → Looked st disk durable old new
    → AlwaysLeaves st (IsWithOrWithout entry (durable old)) (disk old) (disk new)
looked_leaves {R} st disk durable entry old new looked =
    leaves_more st (IsSameKept (durable old)) (IsWithOrWithout entry (durable old)) (disk old) (disk new) (λ d same. inl same) looked.leaves

-- and before one that is tried
pub looked_then : {R : Type 0} (st : Meaning) (disk : R → Disk) (durable : R → Durable) (entry : List LogItem) (old mid new : R) → Looked st disk durable old mid
    → AlwaysLeaves st (IsWithOrWithout entry (durable mid)) (disk mid) (disk new) → AlwaysLeaves st (IsWithOrWithout entry (durable old)) (disk old) (disk new)
looked_then {R} st disk durable entry old mid new looked tries =
    leaves_on st (IsWithOrWithout entry (durable old)) (disk old) (disk mid) (disk new)
    (looked_leaves st disk durable entry old mid looked)
    (subst (λ (d : Durable). AlwaysLeaves st (IsWithOrWithout entry d) (disk mid) (disk new)) looked.same tries)

-- ---- entries one after another

pub each_both : (xs ys : List (List LogItem)) (a b c : Durable) → CommitEach xs a b → CommitEach ys b c → CommitEach (xs ++ ys) a c
each_both [] ys a b c first rest = subst (λ (d : Durable). CommitEach ys d c) first rest
each_both (x ∷ xs) ys a b c (mid, makes, first) rest = (mid, makes, each_both xs ys mid b c first rest)

pub each_more : (xs : List (List LogItem)) (entry : List LogItem) (a b c : Durable) → CommitEach xs a b → Commits entry b c → CommitEach (xs ++ entry ∷ []) a c
each_more xs entry a b c first makes = each_both xs (entry ∷ []) a b c first (c, makes, refl)

calls_made : {R : Type 0} (st : Meaning) (disk : R → Disk) (durable : R → Durable) (first s : R) (entries : List (List LogItem)) → Calls st disk durable first entries s → CommitEach entries (durable first) (durable s)
calls_made {R} st disk durable first s _ none = refl
calls_made {R} st disk durable first s _ (looks entries r _ so_far looked) =
    subst (λ (d : Durable). CommitEach entries (durable first) d) (sym looked.same) (calls_made st disk durable first r entries so_far)
calls_made {R} st disk durable first s _ (commits entries entry r _ so_far committed) =
    each_more entries entry (durable first) (durable r) (durable s) (calls_made st disk durable first r entries so_far) committed.keeps

calls_safe : {R : Type 0} (st : Meaning) (disk : R → Disk) (durable : R → Durable) (first s : R) (entries : List (List LogItem)) → IsSafe st (durable first) (disk first) → Calls st disk durable first entries s → IsSafe st (durable s) (disk s)
calls_safe {R} st disk durable first s _ safe none = safe
calls_safe {R} st disk durable first s _ safe (looks entries r _ so_far looked) = safe_after st (durable r) (durable s) (disk r) (disk s) looked.leaves looked.same
calls_safe {R} st disk durable first s _ safe (commits entries entry r _ so_far committed) = committed.safe

-- ---- fronts

front_all : (done more : List (List LogItem)) (base b d : Durable) → CommitEach (done ++ more) base b → IsSameKept b d → IsAfterFront done more base d
front_all done more base b d made same = record { front = more; rest = []; split = sym (append-nil more); after = b; made = made; same = same }

front_more : (done more : List (List LogItem)) (entry : List LogItem) (base d : Durable) → IsAfterFront done more base d → IsAfterFront done (more ++ entry ∷ []) base d
front_more done more entry base d h = record {
  front = h.front;
  rest = h.rest ++ entry ∷ [];
  split = ap (λ (xs : List (List LogItem)). xs ++ entry ∷ []) h.split ∙ append_assoc h.front h.rest (entry ∷ []);
  after = h.after;
  made = h.made;
  same = h.same;
}

front_tried : (done more : List (List LogItem)) (entry : List LogItem) (base b d : Durable) → CommitEach (done ++ more) base b → IsWithOrWithout entry b d → IsAfterFront done (more ++ entry ∷ []) base d
front_tried done more entry base b d made (inl same) = front_more done more entry base d (front_all done more base b d made same)
front_tried done more entry base b d made (inr (after, makes, same)) =
    front_all done (more ++ entry ∷ []) base after d (subst (λ (xs : List (List LogItem)). CommitEach xs base after) (append_assoc done more (entry ∷ [])) (each_more (done ++ more) entry base b after made makes)) same

tried : (st : Meaning) (done more : List (List LogItem)) (entry : List LogItem) (base b : Durable) (old mid new : Disk) → CommitEach (done ++ more) base b
    → AlwaysLeaves st (IsAfterFront done more base) old mid → AlwaysLeaves st (IsWithOrWithout entry b) mid new → AlwaysLeaves st (IsAfterFront done (more ++ entry ∷ []) base) old new
tried st done more entry base b old mid new made first second =
    leaves_on st (IsAfterFront done (more ++ entry ∷ []) base) old mid new
    (leaves_more st (IsAfterFront done more base) (IsAfterFront done (more ++ entry ∷ []) base) old mid (front_more done more entry base) first)
    (leaves_more st (IsWithOrWithout entry b) (IsAfterFront done (more ++ entry ∷ []) base) mid new (λ d. front_tried done more entry base b d made) second)

calls_leave : {R : Type 0} (st : Meaning) (disk : R → Disk) (durable : R → Durable) (done : List (List LogItem)) (base : Durable) (m : R) → CommitEach done base (durable m) → IsSafe st (durable m) (disk m)
    → (more : List (List LogItem)) (s : R) → Calls st disk durable m more s → AlwaysLeaves st (IsAfterFront done more base) (disk m) (disk s)
calls_leave {R} st disk durable done base m made safe _ s none =
    leaves_more st (IsSameKept (durable m)) (IsAfterFront done [] base) (disk m) (disk m)
    (λ d same. front_all done [] base (durable m) d (each_both done [] base (durable m) (durable m) made refl) same)
    (leaves_still st (durable m) (disk m) safe)
calls_leave {R} st disk durable done base m made safe _ s (looks entries r _ so_far looked) =
    leaves_on st (IsAfterFront done entries base) (disk m) (disk r) (disk s) (calls_leave st disk durable done base m made safe entries r so_far)
    (leaves_more st (IsSameKept (durable r)) (IsAfterFront done entries base) (disk r) (disk s)
    (λ d same. front_all done entries base (durable r) d (each_both done entries base (durable m) (durable r) made (calls_made st disk durable m r entries so_far)) same)
    looked.leaves)
calls_leave {R} st disk durable done base m made safe _ s (commits entries entry r _ so_far committed) =
    tried st done entries entry base (durable r) (disk m) (disk r) (disk s) (each_both done entries base (durable m) (durable r) made (calls_made st disk durable m r entries so_far))
    (calls_leave st disk durable done base m made safe entries r so_far) committed.leaves

pub crashes_leave_a_front : {R : Type 0} (st : Meaning) (disk : R → Disk) (durable : R → Durable) → CrashesLeaveAFront st disk durable
crashes_leave_a_front {R} st disk durable first m last end done more entry safe before then_on tries =
    let made = calls_made st disk durable first m done before in
    tried st done more entry (durable first) (durable last) (disk m) (disk last) (disk end)
    (each_both done more (durable first) (durable m) (durable last) made (calls_made st disk durable m last more then_on))
    (calls_leave st disk durable done (durable first) m made (calls_safe st disk durable first m done safe before) more last then_on) tries
