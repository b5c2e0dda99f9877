-- Deliveries one after another.
use Rattle.std.proofs.Common.{◌≡◌, ℕ, zero, suc, ◌+◌, ◌≤◌, Option, None, refl, sym, subst, arith}
use Rattle.cluster_model.specs.State.{ClusterState, oldest_from}
use Rattle.cluster_model.specs.Takes.{Delivers, Settles}

idle : (n : ℕ) (v : ClusterState) → oldest_from 0 v.post.passed ≡ None → Settles n v v
idle zero v h = refl
idle (suc n) v h = (v, subst (λ (o : Option ℕ). Delivers v o v) (sym h) refl, idle n v h)

more_settled : (n : ℕ) (v mid v' : ClusterState) → Settles n v mid → Delivers mid (oldest_from 0 mid.post.passed) v' → Settles (suc n) v v'
more_settled zero v mid v' h d = (v', subst (λ (x : ClusterState). Delivers x (oldest_from 0 x.post.passed) v') h d, refl)
more_settled (suc n) v mid v' (next, first, rest) d = (next, first, more_settled n next mid v' rest d)

pub settles_more : (n m : ℕ) (v mid v' : ClusterState) → Settles n v mid → Delivers mid (oldest_from 0 mid.post.passed) v' → m ≡ n + 1 → Settles m v v'
settles_more n m v mid v' h d next = subst (λ (k : ℕ). Settles k v v') (let e : suc n ≡ m = omega (arith, next) in e) (more_settled n v mid v' h d)

pub settles_idle : (n m : ℕ) (v mid : ClusterState) → n ≤ m → Settles n v mid → oldest_from 0 mid.post.passed ≡ None → Settles m v mid
settles_idle zero m v mid few h none = subst (λ (x : ClusterState). Settles m x mid) h (idle m mid none)
settles_idle (suc n) zero v mid few h none = absurd (omega (arith, few))
settles_idle (suc n) (suc m) v mid few (next, first, rest) none = (next, first, settles_idle n m next mid (omega (arith, few)) rest none)
