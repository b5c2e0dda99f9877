-- Entries that have changes alone leave what is kept beside the contents.
use Rattle.std.proofs.Common.{◌≡◌, List, [], ◌∷◌, Result, Ok, Err, OnOk, sym, subst}
use Rattle.row_change.specs.declared.entry.LogItem.{LogItem}
use Rattle.row_change.specs.declared.entry.LogItem.TheVariants.{Data, Paxos, HintAdd, HintGone, Ceiling, Mark, Purge}
use Rattle.durable_state.specs.State.{Durable}
use Rattle.durable_state.specs.Keeping.{Commits}
use Rattle.replica.specs.declared.kept.Kept.{Kept}
use Rattle.replica.specs.Kept.{IsKeptOf}
use Rattle.storage_tests.specs.Entries.{AreData}

beside : (d mid : Durable) (kept : Kept) → IsKeptOf d kept → mid ≡ record d { content = mid.content } → IsKeptOf mid kept
beside d mid kept is same =
    subst (λ (e : Durable). IsKeptOf e kept) (sym same) (record { ceiling = is.ceiling; rows = is.rows; hints = is.hints; numbers = is.numbers; marks = is.marks })

pub stays : (items : List LogItem) (d after : Durable) (kept : Kept) → AreData items → IsKeptOf d kept → Commits items d after → IsKeptOf after kept
stays [] d after kept only is made = subst (λ (e : Durable). IsKeptOf e kept) (sym made) is
stays (Data t m ∷ items) d after kept only is (mid, takes, more) = stays items mid after kept only.1 (beside d mid kept is takes.2) more
stays (Paxos p row ∷ items) d after kept only is made = absurd only.0
stays (HintAdd h ∷ items) d after kept only is made = absurd only.0
stays (HintGone peer number ∷ items) d after kept only is made = absurd only.0
stays (Ceiling time ∷ items) d after kept only is made = absurd only.0
stays (Mark m ∷ items) d after kept only is made = absurd only.0
stays (Purge x ∷ items) d after kept only is made = absurd only.0

pub on_ok : {T E : Type 0} (r : Result T E) (P : Type 0) → P → OnOk r P
on_ok (Ok x) P p = p
on_ok (Err e) P p = tt
