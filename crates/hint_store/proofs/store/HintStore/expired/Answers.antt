use Rattle.std.proofs.Common.{◌≡◌, ◌<◌, ◌↔◌, List, ap, Contains}
use Rattle.std.proofs.lemmas.Result.{IfOk-weaker}
use Rattle.row_change.specs.declared.entry.Hint.{Hint}
use Rattle.hint_store.specs.declared.aging.Expired.{Expired}
use Rattle.hint_store.specs.Staged.{Staged}
use Rattle.hint_store.specs.Stores.{hints_now}
use Rattle.hint_store.specs.Expiry.{IsExpired, expired_of}
use Rattle.hint_store.proofs.Keeping.{expired_each}
use Rattle.hint_store.proofs.store.HintStore.expired.Goals as goal

pub returns-clause-each : goal.returns-clause-each
returns-clause-each c =
    IfOk-weaker c.older.result
    (λ (all : List Expired). (x : Expired) → Contains all x ↔ ((h : Hint) × Contains (hints_now c.self.inside.gone.keys c.self.inside.table.entries) h × (h.born < c.oldest_birth.result) × (x ≡ expired_of h)))
    (λ (all : List Expired). (x : Expired) → Contains all x ↔ ((h : Hint) × Contains c.args.self.now.now.hints h × IsExpired c.args.expiry c.args.time h × (x ≡ expired_of h)))
    (λ all each. expired_each c.args.expiry c.args.time c.oldest_birth.result (hints_now c.self.inside.gone.keys c.self.inside.table.entries) c.args.self.now.now.hints all c.oldest_birth.ensures (ap (λ (v : Staged). v.now.hints) c.self.view_is) each)
    c.older.ensures.each
