-- A file in memory.
use Rattle.std.specs.Prelude.{ℕ, []}
use Rattle.cs_store.specs.Images.{Images, quiet}

-- its images, and up to which length writes take no memory
pub record Content : Type 0 where
  pub images : Images
  pub room : ℕ

abbrev pub nothing : Content
nothing = record { images = quiet []; room = 0 }
