-- How many replicas a level waits for, as Cassandra's documentation of consistency levels says.
use Rattle.std.specs.Prelude.{ℕ, ◌+◌, ◌/◌, ◌<◌}
use Rattle.cs_base.specs.declared.level.Level.{Level}
use Rattle.cs_base.specs.declared.level.Level.TheVariants.{One, Two, Three, Quorum, All, LocalQuorum, Serial, LocalSerial, LocalOne}

-- the level's number on the wire (native_protocol_v4.spec, section 3, [consistency])
abbrev pub code_of : Level → ℕ
code_of One = 1
code_of Two = 2
code_of Three = 3
code_of Quorum = 4
code_of All = 5
code_of LocalQuorum = 6
code_of Serial = 8
code_of LocalSerial = 9
code_of LocalOne = 10

-- more than half of the replicas
abbrev pub quorum : ℕ → ℕ
quorum rf = rf / 2 + 1

abbrev pub block_for : Level → ℕ → ℕ
block_for One rf = 1
block_for Two rf = 2
block_for Three rf = 3
block_for Quorum rf = quorum rf
block_for All rf = rf
block_for LocalQuorum rf = quorum rf
block_for Serial rf = quorum rf
block_for LocalSerial rf = quorum rf
block_for LocalOne rf = 1

-- any w of rf replicas and any r of them share one
abbrev pub Meets : ℕ → ℕ → ℕ → Type 0
Meets w r rf = rf < w + r

-- whether the level is that of a single history
abbrev pub IsSerialLevel : Level → Type 0
IsSerialLevel One = ⊥
IsSerialLevel Two = ⊥
IsSerialLevel Three = ⊥
IsSerialLevel Quorum = ⊥
IsSerialLevel All = ⊥
IsSerialLevel LocalQuorum = ⊥
IsSerialLevel Serial = Unit {0}
IsSerialLevel LocalSerial = Unit {0}
IsSerialLevel LocalOne = ⊥
