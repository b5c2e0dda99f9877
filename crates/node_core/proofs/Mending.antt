-- A merge that goes to replicas goes to the node itself once at most.
use Rattle.std.proofs.Common.{◌≡◌, ℕ, zero, suc, ◌≤◌, ◌<◌, ◌+◌, Bool, true, false, cond, List, [], ◌∷◌, refl, arith, filter}
use Rattle.std.specs.Prelude.{◌==◌, length, slice_get}
use Rattle.std.specs.List.{AllByRecursion, range_with_len}
use Rattle.std.proofs.lemmas.Bool.{eqb-true}
use Rattle.cs_base.specs.declared.ids.ReqId.{ReqId}
use Rattle.cs_base.specs.Ring.{is_replica_at}
use Rattle.changes.specs.declared.Partition.{Partition}
use Rattle.changes.specs.declared.Mutation.{Mutation}
use Rattle.peer_messages.specs.declared.message.Body.{Body}
use Rattle.peer_messages.specs.declared.message.Body.TheVariants.{Mend}
use Rattle.peer_messages.specs.declared.outcome.Outbound.{Outbound}
use Rattle.peer_messages.specs.declared.setting.Setting.{Setting}
use Rattle.peer_messages.specs.Settings.{factor_of, replicas_of}
use Rattle.node_steps.specs.Effects.{outbound, send_to}
use Rattle.node_core.specs.Working.{own_sent, weight, BodyFits, IsPlain, IsOwn}

-- ---- what goes to the node itself

own_first : (b : Bool) (me k : ℕ) (id : ReqId) (body : Body) (rest : List Outbound) → (k == me) ≡ b → BodyFits body → IsPlain body → AllByRecursion (IsOwn me id) rest → AllByRecursion (IsOwn me id) (cond b (outbound id body k ∷ rest) rest)
own_first true me k id body rest is fits plain all = (record { upto = eqb-true k me is; request = refl; fits = fits; plain = plain }, all)
own_first false me k id body rest is fits plain all = all

pub own_each : (me : ℕ) (id : ReqId) (body : Body) (ks : List ℕ) → BodyFits body → IsPlain body → AllByRecursion (IsOwn me id) (own_sent me (send_to id body ks))
own_each me id body [] fits plain = tt
own_each me id body (k ∷ ks) fits plain = own_first (k == me) me k id body (own_sent me (send_to id body ks)) refl fits plain (own_each me id body ks fits plain)

-- ---- how often

abbrev times : ℕ → List ℕ → ℕ
times me [] = 0
times me (k ∷ ks) = cond (k == me) 1 0 + times me ks

-- a merge, with what comes of it, weighs 2
weighed_by : (b : Bool) (k : ℕ) (id : ReqId) (m : Mutation) (rest : List Outbound) (n : ℕ) → weight rest ≡ n + n → weight (cond b (outbound id (Mend m) k ∷ rest) rest) ≡ (cond b 1 0 + n) + (cond b 1 0 + n)
weighed_by true k id m rest n is = omega (arith, is)
weighed_by false k id m rest n is = omega (arith, is)

weighed : (me : ℕ) (id : ReqId) (m : Mutation) (ks : List ℕ) → weight (own_sent me (send_to id (Mend m) ks)) ≡ times me ks + times me ks
weighed me id m [] = refl
weighed me id m (k ∷ ks) = weighed_by (k == me) k id m (own_sent me (send_to id (Mend m) ks)) (times me ks) (weighed me id m ks)

fewer_by : (b : Bool) (me k : ℕ) (rest : List ℕ) (n : ℕ) → times me rest ≤ n → times me (cond b (k ∷ rest) rest) ≤ cond (k == me) 1 0 + n
fewer_by true me k rest n le = omega (arith, le)
fewer_by false me k rest n le = omega (arith, le)

fewer : (p : ℕ → Bool) (me : ℕ) (ks : List ℕ) → times me (filter p ks) ≤ times me ks
fewer p me [] = omega arith
fewer p me (k ∷ ks) = fewer_by (p k) me k (filter p ks) (times me ks) (fewer p me ks)

not_above : (b : Bool) (a me : ℕ) → (a == me) ≡ b → me < a → cond b 1 0 ≤ 0
not_above true a me is below = let same = eqb-true a me is in absurd (omega (arith, same, below))
not_above false a me is below = omega arith

none_above : (me a n : ℕ) → me < a → times me (range_with_len a n) ≡ 0
none_above me a zero below = refl
none_above me a (suc n) below =
    let first = not_above (a == me) a me refl below in
    let rest = none_above me (a + 1) n (omega (arith, below)) in
    omega (arith, first, rest)

once_by : (b : Bool) (me a n : ℕ) → (a == me) ≡ b → times me (range_with_len (a + 1) n) ≤ 1 → cond b 1 0 + times me (range_with_len (a + 1) n) ≤ 1
once_by true me a n is rest =
    let same = eqb-true a me is in
    let none = none_above me (a + 1) n (omega (arith, same)) in
    omega (arith, none)
once_by false me a n is rest = omega (arith, rest)

once : (me a n : ℕ) → times me (range_with_len a n) ≤ 1
once me a zero = omega arith
once me a (suc n) = once_by (a == me) me a n refl (once me (a + 1) n)

pub replicas_light : (me : ℕ) (id : ReqId) (m : Mutation) (p : ℕ → Bool) (c : Setting) (part : Partition) → weight (own_sent me (send_to id (Mend m) (filter p (replicas_of c part)))) < 3
replicas_light me id m p c part =
    let ks = replicas_of c part in
    let all = once me 0 (length c.ring) in
    let some = fewer (λ k. is_replica_at c.ring (factor_of c part.table) part.token (slice_get c.ring k)) me (range_with_len 0 (length c.ring)) in
    let least = fewer p me ks in
    let is = weighed me id m (filter p ks) in
    omega (arith, all, some, least, is)
