-- What the words of the command line ask of the program, and what it tells of itself.
use Rattle.std.specs.Prelude.{ℕ, Bool, true, false, List, [], ◌∷◌, Option, Some, None, codes, if◌then◌else◌, ◌==◌}
use Rattle.std.specs.Option.{option_map}
use Rattle.std.specs.Str.{bytes_eq}
use Rattle.script_words.specs.Words.{is_number, number_within}
use Rattle.cluster_program.specs.declared.command.Command.{Command}
use Rattle.cluster_program.specs.declared.command.Command.TheVariants.{Script, Serve, Help, Version}

abbrev pub command_of_name : List ℕ → Option Command
command_of_name word =
    if bytes_eq word (codes "script") then Some Script
    else if bytes_eq word (codes "--help") then Some Help
    else if bytes_eq word (codes "--version") then Some Version
    else None

abbrev pub begins_with_zero : List ℕ → Bool
begins_with_zero [] = false
begins_with_zero (b ∷ bs) = b == 48

-- the first port of a served run: a number from 1,024 to 65,529, without a zero in front
abbrev pub port_of : List ℕ → Option ℕ
port_of word = if is_number word then (if begins_with_zero word then None else number_within 1024 65529 word) else None

abbrev pub serve_command : List ℕ → List ℕ → Option Command
serve_command word port = if bytes_eq word (codes "serve") then option_map Serve (port_of port) else None

-- one word names a command, or `serve` does with a folder and a port
abbrev pub command_named : List (List ℕ) → Option Command
command_named [] = None
command_named (word ∷ []) = command_of_name word
command_named (word ∷ dir ∷ []) = None
command_named (word ∷ dir ∷ port ∷ []) = serve_command word port
command_named (word ∷ dir ∷ port ∷ next ∷ rest) = None

abbrev pub is_serve : Option Command → Bool
is_serve None = false
is_serve (Some Script) = false
is_serve (Some (Serve port)) = true
is_serve (Some Help) = false
is_serve (Some Version) = false

abbrev pub usage_line : List ℕ
usage_line = codes "usage: script | serve <dir> <port>\n"

abbrev pub help_text : List ℕ
help_text = codes "usage: script | serve <dir> <port>\nscript              reads a fault script from standard input, runs it, and writes its answers\nserve <dir> <port>  serves connections; reads the head of a script and then console lines from standard input\n--help              writes this\n--version           writes the version, and the toolchain that it is proved with\n"

abbrev pub version_text : List ℕ
version_text = codes "biropuve 0.1.0, proved with rattle-kit-13f\n"
