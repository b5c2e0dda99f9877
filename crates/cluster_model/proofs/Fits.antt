-- Nodes beside those of a run, one by one.
use Rattle.std.proofs.Common.{◌≡◌, ℕ, zero, suc, ◌+◌, Option, Some, List, [], ◌∷◌, refl, ap, subst, ◌∙◌, arith}
use Rattle.std.specs.Prelude.{map, slice_get, slice_set}
use Rattle.cs_store.specs.declared.mem.MemStore.{MemStore}
use Rattle.peer_messages.specs.declared.setting.Setting.{Setting}
use Rattle.node_steps.specs.State.{NodeState}
use Rattle.node_core.specs.declared.node.Node.{Node}
use Rattle.cluster_runs.specs.World.{Standing, Running, Down, Made, left_by}
use Rattle.cs_base.proofs.Slots.{some_one}
use Rattle.cluster_model.specs.State.{Showing, Up, node_of, shown_of}
use Rattle.cluster_model.specs.Sites.{Keeper, MayTake, MayWake, HasLeft}
use Rattle.cluster_model.specs.Holding.{Fits, AreFit, IsRunning, showing_of, site_of}
use Rattle.cluster_model.specs.declared.told.Told.{Told}
use Rattle.cluster_model.specs.declared.seat.Part.{Part}
use Rattle.cluster_model.specs.declared.seat.Part.TheVariants.{Runs, Rests, Lent}
use Rattle.cluster_model.specs.declared.seat.Seat.{Seat}

fits_at : {R : Type 0} (m : Keeper R) (c : Setting) (a b : ℕ) (x z : Seat R) (y : Standing) → a ≡ b → x ≡ z → Fits m c a x.told.items x.part y → Fits m c b z.told.items z.part y
fits_at {R} m c a b x z y number same h =
    subst (λ (s : Seat R). Fits m c b s.told.items s.part y) same (subst (λ (n : ℕ). Fits m c n x.told.items x.part y) number h)

-- the k-th of them
fit_get : {R : Type 0} (m : Keeper R) (c : Setting) (i k : ℕ) (xs : List (Seat R)) (ys : List Standing) (x : Seat R) → AreFit m c i xs ys → slice_get xs k ≡ Some x
    → (y : Standing) × (slice_get ys k ≡ Some y) × Fits m c (i + k) x.told.items x.part y
fit_get m c i k [] [] z h at = cc
fit_get m c i k [] (y ∷ ys) z h at = absurd h
fit_get m c i k (x ∷ xs) [] z h at = absurd h
fit_get m c i zero (x ∷ xs) (y ∷ ys) z h at = (y, refl, fits_at m c i (i + 0) x z y (omega arith) (some_one at) h.0)
fit_get {R} m c i (suc k) (x ∷ xs) (y ∷ ys) z h at =
    let rest = fit_get m c (i + 1) k xs ys z h.1 at in
    (rest.0, rest.1, fits_at m c (i + 1 + k) (i + suc k) z z rest.0 (omega arith) refl rest.2)

fit_set : {R : Type 0} (m : Keeper R) (c : Setting) (i k : ℕ) (xs : List (Seat R)) (ys : List Standing) (x : Seat R) (y : Standing) → AreFit m c i xs ys → Fits m c (i + k) x.told.items x.part y
    → AreFit m c i (slice_set xs k x) (slice_set ys k y)
fit_set m c i k [] [] x' y' h fits = tt
fit_set m c i k [] (y ∷ ys) x' y' h fits = absurd h
fit_set m c i k (x ∷ xs) [] x' y' h fits = absurd h
fit_set m c i zero (x ∷ xs) (y ∷ ys) x' y' h fits = (fits_at m c (i + 0) i x' x' y' (omega arith) refl fits, h.1)
fit_set m c i (suc k) (x ∷ xs) (y ∷ ys) x' y' h fits = (h.0, fit_set m c (i + 1) k xs ys x' y' h.1 (fits_at m c (i + suc k) (i + 1 + k) x' x' y' (omega arith) refl fits))

-- node k of them
pub fit_at : {R : Type 0} (m : Keeper R) (c : Setting) (k : ℕ) (xs : List (Seat R)) (ys : List Standing) (x : Seat R) → AreFit m c 0 xs ys → slice_get xs k ≡ Some x
    → (y : Standing) × (slice_get ys k ≡ Some y) × Fits m c k x.told.items x.part y
fit_at m c k xs ys x h at = let there = fit_get m c 0 k xs ys x h at in (there.0, there.1, fits_at m c (0 + k) k x x there.0 (omega arith) refl there.2)

pub fit_put : {R : Type 0} (m : Keeper R) (c : Setting) (k : ℕ) (xs : List (Seat R)) (ys : List Standing) (x : Seat R) (y : Standing) → AreFit m c 0 xs ys → Fits m c k x.told.items x.part y
    → AreFit m c 0 (slice_set xs k x) (slice_set ys k y)
fit_put m c k xs ys x y h fits = fit_set m c 0 k xs ys x y h (fits_at m c k (0 + k) x x y (omega arith) refl fits)

-- ---- what is seen

fits_shown : {R : Type 0} (m : Keeper R) (c : Setting) (k : ℕ) (told : List Told) (part : Part R) (y : Standing) → Fits m c k told part y → showing_of m part ≡ shown_of y
fits_shown m c k told (Runs n) (Running s) h = ap Up h.is
fits_shown m c k told (Runs n) (Down s made) h = absurd h
fits_shown m c k told (Rests store) (Running s) h = absurd h
fits_shown m c k told (Rests store) (Down s made) h = refl
fits_shown m c k told Lent y h = absurd h

pub are_shown : {R : Type 0} (m : Keeper R) (c : Setting) (i : ℕ) (xs : List (Seat R)) (ys : List Standing) → AreFit m c i xs ys → map node_of (map (site_of m) xs) ≡ map shown_of ys
are_shown m c i [] [] h = refl
are_shown m c i [] (y ∷ ys) h = absurd h
are_shown m c i (x ∷ xs) [] h = absurd h
are_shown m c i (x ∷ xs) (y ∷ ys) h =
    ap (λ (z : Showing). z ∷ map node_of (map (site_of m) xs)) (fits_shown m c i x.told.items x.part y h.0)
    ∙ ap (λ (zs : List Showing). shown_of y ∷ zs) (are_shown m c (i + 1) xs ys h.1)

-- ---- what stands beside a node that runs, and beside one that is down

running_by : {R : Type 0} (m : Keeper R) (c : Setting) (k : ℕ) (told : List Told) (n : Node R MemStore) (y : Standing) → Fits m c k told (Runs n) y → (s : NodeState) × (y ≡ Running s) × IsRunning m c k told n s
running_by m c k told n (Running s) h = (s, refl, h)
running_by m c k told n (Down s made) h = absurd h

resting_by : {R : Type 0} (m : Keeper R) (c : Setting) (k : ℕ) (told : List Told) (store : MemStore) (y : Standing) → Fits m c k told (Rests store) y → (s : NodeState) × (made : Option Made) × (y ≡ Down s made) × HasLeft m (left_by s made) store
resting_by m c k told store (Running s) h = absurd h
resting_by m c k told store (Down s made) h = (s, made, refl, h)

pub beside_running : {R : Type 0} (m : Keeper R) (c : Setting) (k : ℕ) (told : List Told) (part : Part R) (n : Node R MemStore) (y : Standing) → part ≡ Runs n → Fits m c k told part y
    → (s : NodeState) × (y ≡ Running s) × IsRunning m c k told n s
beside_running {R} m c k told part n y is h = running_by m c k told n y (subst (λ (p : Part R). Fits m c k told p y) is h)

pub beside_resting : {R : Type 0} (m : Keeper R) (c : Setting) (k : ℕ) (told : List Told) (part : Part R) (store : MemStore) (y : Standing) → part ≡ Rests store → Fits m c k told part y
    → (s : NodeState) × (made : Option Made) × (y ≡ Down s made) × HasLeft m (left_by s made) store
beside_resting {R} m c k told part store y is h = resting_by m c k told store y (subst (λ (p : Part R). Fits m c k told p y) is h)

-- each may take an event, and be loaded
may_take_by : {R : Type 0} (m : Keeper R) (c : Setting) (k : ℕ) (told : List Told) (part : Part R) (y : Standing) → Fits m c k told part y → MayTake m part
may_take_by m c k told (Runs n) (Running s) h = h.ready
may_take_by m c k told (Runs n) (Down s made) h = absurd h
may_take_by m c k told (Rests store) y h = tt
may_take_by m c k told Lent y h = tt

may_wake_by : {R : Type 0} (m : Keeper R) (c : Setting) (k : ℕ) (told : List Told) (part : Part R) (y : Standing) → Fits m c k told part y → MayWake m part
may_wake_by m c k told (Runs n) y h = tt
may_wake_by m c k told (Rests store) (Running s) h = absurd h
may_wake_by m c k told (Rests store) (Down s made) h = (left_by s made, h)
may_wake_by m c k told Lent y h = tt

pub may_take : {R : Type 0} (m : Keeper R) (c : Setting) (xs : List (Seat R)) (ys : List Standing) → AreFit m c 0 xs ys → (k : ℕ) (x : Seat R) → slice_get xs k ≡ Some x → MayTake m x.part
may_take m c xs ys h k x at = let there = fit_at m c k xs ys x h at in may_take_by m c k x.told.items x.part there.0 there.2

pub may_wake : {R : Type 0} (m : Keeper R) (c : Setting) (xs : List (Seat R)) (ys : List Standing) → AreFit m c 0 xs ys → (k : ℕ) (x : Seat R) → slice_get xs k ≡ Some x → MayWake m x.part
may_wake m c xs ys h k x at = let there = fit_at m c k xs ys x h at in may_wake_by m c k x.told.items x.part there.0 there.2
