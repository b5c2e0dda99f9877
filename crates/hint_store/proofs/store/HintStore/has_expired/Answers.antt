use Rattle.std.proofs.Common.{◌≡◌, ◌-◌, ◌∙◌, ℕ, sym, ap}
use Rattle.std.specs.Prelude.{nat_lt}
use Rattle.std.specs.List.{list_any}
use Rattle.hint_store.specs.Staged.{Staged}
use Rattle.hint_store.specs.Stores.{hints_now}
use Rattle.hint_store.proofs.Keeping.{any_expired}
use Rattle.hint_store.proofs.store.HintStore.has_expired.Goals as goal

pub returns : goal.returns
returns c =
    let is : c.has_older.result ≡ list_any (λ h. nat_lt h.born (c.args.time - c.args.expiry)) c.args.self.now.now.hints =
    c.has_older.ensures
    ∙ ap (λ (t : ℕ). list_any (λ h. nat_lt h.born t) (hints_now c.self.inside.gone.keys c.self.inside.table.entries)) c.oldest_birth.ensures
    ∙ ap (λ (v : Staged). list_any (λ h. nat_lt h.born (c.args.time - c.args.expiry)) v.now.hints) c.self.view_is in
    let both = any_expired c.args.expiry c.args.time c.args.self.now.now.hints in
    (λ any. both.0 (sym is ∙ any), λ found. is ∙ both.1 found)
