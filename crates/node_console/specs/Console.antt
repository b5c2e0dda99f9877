-- The lines of a console, at so many nodes.
use Rattle.std.specs.Prelude.{ℕ, Bool, true, false, ◌&&◌, ◌==◌, nat_lt, if◌then◌else◌, Option, Some, None, Result, Ok, Err, List, [], ◌∷◌, length, codes}
use Rattle.std.specs.Str.{bytes_eq}
use Rattle.script_words.specs.Words.{words_of, is_number, node_of, up_of}
use Rattle.node_console.specs.declared.command.Command.{Command}
use Rattle.node_console.specs.declared.command.Command.TheVariants as command
use Rattle.node_console.specs.declared.command.ConsoleError.{ConsoleError}
use Rattle.node_console.specs.declared.command.ConsoleError.TheVariants.{Unknown, Number}

abbrev pub longest_line : ℕ
longest_line = 4096

abbrev pub ranged_node : Option ℕ → Result ℕ ConsoleError
ranged_node None = Err Number
ranged_node (Some node) = Ok node

-- a word that is no number is not understood; a number that names no node is out of range
abbrev pub named_node : ℕ → List ℕ → Result ℕ ConsoleError
named_node nodes word = if is_number word then ranged_node (node_of nodes word) else Err Unknown

abbrev pub with_node : (ℕ → Command) → Result ℕ ConsoleError → Result Command ConsoleError
with_node make (Ok node) = Ok (make node)
with_node make (Err e) = Err e

-- the one word that there is
abbrev pub one_of : List (List ℕ) → Option (List ℕ)
one_of (word ∷ []) = Some word
one_of words = None

-- a command at the node that one word names
abbrev pub node_by : (ℕ → Command) → ℕ → Option (List ℕ) → Result Command ConsoleError
node_by make nodes None = Err Unknown
node_by make nodes (Some word) = with_node make (named_node nodes word)

abbrev pub node_command : (ℕ → Command) → ℕ → List (List ℕ) → Result Command ConsoleError
node_command make nodes words = node_by make nodes (one_of words)

-- the peer of a mark is another node
abbrev pub marked : Option ℕ → Option ℕ → Bool → Result Command ConsoleError
marked (Some node) (Some peer) up = if node == peer then Err Number else Ok (command.Mark node peer up)
marked _ _ up = Err Number

abbrev pub mark_of : ℕ → List ℕ → List ℕ → Option Bool → Result Command ConsoleError
mark_of nodes node peer None = Err Unknown
mark_of nodes node peer (Some up) = if is_number node && is_number peer then marked (node_of nodes node) (node_of nodes peer) up else Err Unknown

-- the three words that there are
abbrev pub three_of : List (List ℕ) → Option (List ℕ × List ℕ × List ℕ)
three_of (a ∷ b ∷ c ∷ []) = Some (a, b, c)
three_of words = None

abbrev pub mark_by : ℕ → Option (List ℕ × List ℕ × List ℕ) → Result Command ConsoleError
mark_by nodes None = Err Unknown
mark_by nodes (Some words) = mark_of nodes words.0 words.1 (up_of words.2)

abbrev pub mark_command : ℕ → List (List ℕ) → Result Command ConsoleError
mark_command nodes words = mark_by nodes (three_of words)

abbrev pub lone_command : Command → List (List ℕ) → Result Command ConsoleError
lone_command made [] = Ok made
lone_command made (word ∷ words) = Err Unknown

-- what these words say behind the first one
abbrev pub command_named : ℕ → List ℕ → List (List ℕ) → Result Command ConsoleError
command_named nodes word words =
    if bytes_eq word (codes "mark") then mark_command nodes words
    else (if bytes_eq word (codes "flush") then node_command command.Flush nodes words
    else (if bytes_eq word (codes "merge") then node_command command.Merge nodes words
    else (if bytes_eq word (codes "status") then lone_command command.Status words
    else (if bytes_eq word (codes "stop") then lone_command command.Stop words
    else Err Unknown))))

abbrev pub command_in : ℕ → List (List ℕ) → Result Command ConsoleError
command_in nodes [] = Err Unknown
command_in nodes (word ∷ words) = command_named nodes word words

abbrev pub command_by : ℕ → Option (List (List ℕ)) → Result Command ConsoleError
command_by nodes None = Err Unknown
command_by nodes (Some words) = command_in nodes words

-- what a line says; one that is too long, empty or no text is not understood
abbrev pub command_of : ℕ → List ℕ → Result Command ConsoleError
command_of nodes line =
    if length line == 0 then Err Unknown
    else (if nat_lt longest_line (length line) then Err Unknown else command_by nodes (words_of line))
