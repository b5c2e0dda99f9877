-- The files of a store in memory, now and before each change.
use Rattle.std.proofs.Common.{inl}
use Rattle.std.specs.Prelude.{ℕ, zero, suc, List, [], ◌∷◌, length, slice_index_or, refl, Vec}
use Rattle.std.specs.declared.alloc.Global.{Global}
use Rattle.cs_store.specs.Disk.{Disk}
use Rattle.cs_store.specs.Images.{Images, MayLeave}
use Rattle.cs_store.specs.MemFile.{Content, nothing}

-- a state of the files, as a history has it
abbrev pub State : Type 0
State = Vec Content Global × Unit {0}

-- the files at a moment: those after so many changes
abbrev pub files_at : List State → List Content → ℕ → List Content
files_at [] now t = now
files_at (state ∷ past) now zero = state.0.items
files_at (state ∷ past) now (suc t) = files_at past now t

abbrev pub file_at : List Content → ℕ → Content
file_at files k = slice_index_or files k nothing

-- a file, by what each outcome of a crash would leave of it
abbrev pub image_at : List Content → ℕ → Images
image_at files k = (file_at files k).images

-- what a crash at a moment might have left of a file
abbrev pub LeftAt : List State → List Content → ℕ → ℕ → List ℕ → Type 0
LeftAt past now t k = MayLeave (image_at (files_at past now t) k)

abbrev pub disk_at : List State → List Content → Disk
disk_at past now = record { seen = λ k. (image_at now k).kept; moment = length past; left = LeftAt past now }

-- at the newest moment the files are those of now
pub kept_stays : (past : List State) (now : List Content) (k : ℕ) → LeftAt past now (length past) k (image_at now k).kept
kept_stays [] now k = inl refl
kept_stays (state ∷ past) now k = kept_stays past now k
