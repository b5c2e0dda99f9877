-- The head of a served run, and what its console writes first.
use Rattle.std.specs.Prelude.{◌≡◌, ℕ, zero, suc, ◌+◌, List, [], ◌∷◌, ◌++◌, Option, Some, Ok, codes, length, drop}
use Rattle.std.specs.Fmt.{decimal}
use Rattle.fault_script.specs.declared.script.Script.{Script}
use Rattle.fault_script.specs.Script.{IsRead}
use Rattle.source_lines.specs.Heads.{head_of}
use Rattle.source_lines.specs.Lines.{Reading, left_of}

-- The head of what was left, up to and with its first line `run`, is this script. The reader of lines has what follows it.
pub record IsHead (left : List ℕ) (script : Script) (lines : Reading) (left' : Option (List ℕ)) : Type 0 where
  pub is_read : IsRead (head_of left) (Ok script)
  pub rest : left_of lines.ahead left' ≡ Some (drop (length (head_of left)) left)

-- the line that tells at which port a node listens
abbrev pub listening_line : ℕ → ℕ → List ℕ
listening_line node port = codes "listening " ++ decimal node ++ 32 ∷ decimal port ++ 10 ∷ []

-- a line for each of so many nodes, by rising number. Node 0 listens at this port, and each other one at the port behind the last
abbrev pub listening_lines : ℕ → ℕ → List ℕ
listening_lines port zero = []
listening_lines port (suc n) = listening_lines port n ++ listening_line n (port + n)
