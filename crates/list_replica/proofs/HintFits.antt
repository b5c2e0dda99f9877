-- Each hint that the entries of a log keep can be written, as each of their items can.
use Rattle.std.proofs.Common.{◌≡◌, ◌==◌, inl, inr, List, [], ◌∷◌, Contains, ap, subst, sym, refl}
use Rattle.std.specs.Prelude.{not, ◌&&◌}
use Rattle.std.specs.List.{AllByRecursion}
use Rattle.std.proofs.lemmas.Bool.{eq-eqb}
use Rattle.std.proofs.lemmas.List.Elements.{Contains-push_cases}
use Rattle.cs_base.proofs.Members.{contains_nil, contains_filter, contains_from_filter}
use Rattle.stored_changes.specs.Spelling.{MutationFits}
use Rattle.row_change.specs.declared.entry.Hint.{Hint}
use Rattle.row_change.specs.declared.entry.LogEntry.{LogEntry}
use Rattle.row_change.specs.declared.entry.LogItem.{LogItem}
use Rattle.row_change.specs.declared.entry.LogItem.TheVariants.{Data, Paxos, HintAdd, HintGone, Ceiling, Mark, Purge}
use Rattle.row_change.specs.Spelling.{ItemFits, EntryFits}
use Rattle.durable_state.specs.State.{Durable, hints_of, formatted}
use Rattle.durable_state.specs.Keeping.{TakesItem, Commits}
use Rattle.durable_state.proofs.Making.{each_entry_makes}
use Rattle.replica.specs.declared.kept.Kept.{Kept}
use Rattle.replica.specs.Kept.{IsKeptOf}
use Rattle.list_replica.specs.Keeping.{Entered, entries_of, kept_from, kept_by}

abbrev pub HintsFit : List Hint → Type 0
HintsFit hints = (h : Hint) → Contains hints h → MutationFits h.mutation

as_they_were : (d d' : Durable) → d'.hints ≡ d.hints → HintsFit d.hints → HintsFit d'.hints
as_they_were d d' same fit h there = fit h (subst (λ (l : List Hint). Contains l h) same there)

item_fit : (item : LogItem) (d d' : Durable) → TakesItem item d d' → ItemFits item → HintsFit d.hints → HintsFit d'.hints
item_fit (Data arrival m) d d' (took, arrive, is) fits fit h there = as_they_were d d' (ap (λ (e : Durable). e.hints) is) fit h there
item_fit (Paxos p row) d d' (sets, is) fits fit h there = as_they_were d d' (ap (λ (e : Durable). e.hints) is) fit h there
item_fit (HintAdd added) d d' is fits fit h there =
    elim (Contains-push_cases d.hints added h (subst (λ (l : List Hint). Contains l h) (ap (λ (e : Durable). e.hints) is) there)) [
      | inl before ↦ fit h before
      | inr same ↦ subst (λ (x : Hint). MutationFits x.mutation) same fits
    ]
item_fit (HintGone peer number) d d' is fits fit h there =
    fit h (contains_from_filter (λ (x : Hint). not ((x.peer == peer) && (x.number == number))) d.hints h (subst (λ (l : List Hint). Contains l h) (ap (λ (e : Durable). e.hints) is) there)).0
item_fit (Ceiling time) d d' is fits fit h there = as_they_were d d' (ap (λ (e : Durable). e.hints) is) fit h there
item_fit (Mark m) d d' is fits fit h there = as_they_were d d' (ap (λ (e : Durable). e.hints) is) fit h there
item_fit (Purge x) d d' (went, is) fits fit h there = as_they_were d d' (ap (λ (e : Durable). e.hints) is) fit h there

items_fit : (items : List LogItem) (d d' : Durable) → Commits items d d' → AllByRecursion ItemFits items → HintsFit d.hints → HintsFit d'.hints
items_fit [] d d' is fits fit = as_they_were d d' (ap (λ (e : Durable). e.hints) is) fit
items_fit (i ∷ items) d d' (mid, takes, rest) fits fit = items_fit items mid d' rest fits.1 (item_fit i d mid takes fits.0 fit)

entries_fit : (es : List Entered) (d : Durable) → AllByRecursion EntryFits (entries_of es) → HintsFit d.hints → HintsFit (kept_from d es).hints
unfolding kept_from
entries_fit [] d fits fit = fit
entries_fit (e ∷ es) d fits fit =
    let made = each_entry_makes e.0.items d in
    entries_fit es made.0 fits.1 (items_fit e.0.items d made.0 made.1 fits.0.each fit)

-- what is told of them by peer are all of them
told_there : (d : Durable) (kept : Kept) → IsKeptOf d kept → (h : Hint) → Contains kept.hints h → Contains d.hints h
told_there d kept is h there =
    let its : Contains (hints_of kept.hints h.peer) h = contains_filter (λ (x : Hint). x.peer == h.peer) kept.hints h there (eq-eqb h.peer h.peer refl) in
    (contains_from_filter (λ (x : Hint). x.peer == h.peer) d.hints h (subst (λ (l : List Hint). Contains l h) (is.hints h.peer) its)).0

pub loaded_fit : (es : List Entered) (entries : List LogEntry) (kept : Kept) → AllByRecursion EntryFits entries → entries_of es ≡ entries → IsKeptOf (kept_by es) kept → HintsFit kept.hints
loaded_fit es entries kept fits are is h there =
    entries_fit es formatted (subst (λ (l : List LogEntry). AllByRecursion EntryFits l) (sym are) fits) (λ x none. absurd (contains_nil x none)) h (told_there (kept_by es) kept is h there)
