-- What a content has: changes in order, none of which outranks another.
use Rattle.std.specs.Prelude.{List}
use Rattle.changes.specs.declared.Held.{Held}
use Rattle.changes.specs.Contents.{AreApart}
use Rattle.changes.specs.Places.{AreInOrder}

pub record IsSettled (changes : List Held) : Type 0 where
  pub ordered : AreInOrder changes
  pub apart : AreApart changes
