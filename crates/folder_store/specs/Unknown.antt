-- What is told of the files of the system.
use Rattle.std.specs.Prelude.{[]}
use Rattle.cs_store.specs.Disk.{Disk}

-- nothing
abbrev pub unknown : Disk
unknown = record { seen = λ _. []; moment = 0; left = λ _ _ _. ⊥ }
