-- Entries one after another.
use Rattle.std.proofs.Common.{List, [], ◌∷◌, ◌++◌, refl, subst}
use Rattle.row_change.specs.declared.entry.LogItem.{LogItem}
use Rattle.durable_state.specs.State.{Durable}
use Rattle.durable_state.specs.Keeping.{Commits}
use Rattle.durable_state.specs.Laws.{EntriesFollow}

pub commits_both : (xs ys : List LogItem) (a b c : Durable) → Commits xs a b → Commits ys b c → Commits (xs ++ ys) a c
commits_both [] ys a b c first rest = subst (λ (d : Durable). Commits ys d c) first rest
commits_both (x ∷ xs) ys a b c (mid, takes, first) rest = (mid, takes, commits_both xs ys mid b c first rest)

pub commits_parts : (xs ys : List LogItem) (a c : Durable) → Commits (xs ++ ys) a c → (b : Durable) × Commits xs a b × Commits ys b c
commits_parts [] ys a c h = (a, refl, h)
commits_parts (x ∷ xs) ys a c (mid, takes, more) =
    let found = commits_parts xs ys mid c more in
    (found.0, (mid, takes, found.1), found.2)

pub entries_follow : EntriesFollow
entries_follow xs ys a c = (commits_parts xs ys a c, λ found. commits_both xs ys a found.0 c found.1 found.2)
