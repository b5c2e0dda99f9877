-- The nodes that a line names are some of those that there are.
use Rattle.std.proofs.Common.{◌≡◌, ℕ, ◌-◌, ◌<◌, ◌≤◌, Bool, true, false, ◌&&◌, nat_le, nat_lt, ◌==◌, cond, List, [], ◌∷◌, length, codes, Option, Some, None, Result, Ok, Err, IfOk, IfSome, refl, sym, subst, arith}
use Rattle.std.specs.Str.{bytes_eq}
use Rattle.std.proofs.lemmas.Bool.Decides.{nat_tests}
use Rattle.script_words.specs.Words.{words_of, is_number, node_of, up_of, number_value}
use Rattle.node_console.specs.Console.{ranged_node, named_node, with_node, one_of, node_by, node_command, marked, mark_of, three_of, mark_by, mark_command, lone_command, command_named, command_in, command_by, command_of, longest_line}
use Rattle.node_console.specs.declared.command.Command.{Command}
use Rattle.node_console.specs.declared.command.Command.TheVariants as command
use Rattle.node_console.specs.declared.command.ConsoleError.{ConsoleError}
use Rattle.node_console.specs.declared.command.ConsoleError.TheVariants.{Unknown, Number}
use Rattle.served_console.specs.Asking.{NamesNodes}

abbrev Names : ℕ → Result Command ConsoleError → Type 0
Names nodes r = IfOk r (λ (c : Command). NamesNodes nodes c)

either : (nodes : ℕ) (b : Bool) (x y : Result Command ConsoleError) → Names nodes x → Names nodes y → Names nodes (cond b x y)
either nodes true x y h k = h
either nodes false x y h k = k

within_nodes : (nodes n : ℕ) → 1 ≤ nodes → (b : Bool) → (nat_le 0 n && nat_le n (nodes - 1)) ≡ b → IfSome (cond b (Some n) None) (λ (node : ℕ). node < nodes)
within_nodes nodes n some true e = grind (arith, nat_tests)
within_nodes nodes n some false e = tt

node_fits : (nodes : ℕ) (word : List ℕ) → 1 ≤ nodes → IfSome (node_of nodes word) (λ (node : ℕ). node < nodes)
node_fits nodes word some = within_nodes nodes (number_value word) some (nat_le 0 (number_value word) && nat_le (number_value word) (nodes - 1)) refl

ranged_fits : (nodes : ℕ) (o : Option ℕ) → IfSome o (λ (node : ℕ). node < nodes) → IfOk (ranged_node o) (λ (node : ℕ). node < nodes)
ranged_fits nodes None h = tt
ranged_fits nodes (Some node) h = h

number_fits : (nodes : ℕ) (b : Bool) (word : List ℕ) → 1 ≤ nodes → IfOk (cond b (ranged_node (node_of nodes word)) (Err Unknown)) (λ (node : ℕ). node < nodes)
number_fits nodes true word some = ranged_fits nodes (node_of nodes word) (node_fits nodes word some)
number_fits nodes false word some = tt

flush_names : (nodes : ℕ) (r : Result ℕ ConsoleError) → IfOk r (λ (node : ℕ). node < nodes) → Names nodes (with_node command.Flush r)
flush_names nodes (Ok node) h = h
flush_names nodes (Err e) h = tt

merge_names : (nodes : ℕ) (r : Result ℕ ConsoleError) → IfOk r (λ (node : ℕ). node < nodes) → Names nodes (with_node command.Merge r)
merge_names nodes (Ok node) h = h
merge_names nodes (Err e) h = tt

flush_by : (nodes : ℕ) (o : Option (List ℕ)) → 1 ≤ nodes → Names nodes (node_by command.Flush nodes o)
flush_by nodes None some = tt
flush_by nodes (Some word) some = flush_names nodes (named_node nodes word) (number_fits nodes (is_number word) word some)

merge_by : (nodes : ℕ) (o : Option (List ℕ)) → 1 ≤ nodes → Names nodes (node_by command.Merge nodes o)
merge_by nodes None some = tt
merge_by nodes (Some word) some = merge_names nodes (named_node nodes word) (number_fits nodes (is_number word) word some)

other_peer : (nodes node peer : ℕ) (up b : Bool) → node < nodes → Names nodes (cond b (Err Number) (Ok (command.Mark node peer up)))
other_peer nodes node peer up true h = tt
other_peer nodes node peer up false h = h

marked_names : (nodes : ℕ) (node peer : Option ℕ) (up : Bool) → IfSome node (λ (n : ℕ). n < nodes) → Names nodes (marked node peer up)
marked_names nodes None peer up h = tt
marked_names nodes (Some node) None up h = tt
marked_names nodes (Some node) (Some peer) up h = other_peer nodes node peer up (node == peer) h

mark_names : (nodes : ℕ) (node peer : List ℕ) (up : Option Bool) → 1 ≤ nodes → Names nodes (mark_of nodes node peer up)
mark_names nodes node peer None some = tt
mark_names nodes node peer (Some up) some =
    either nodes (is_number node && is_number peer) (marked (node_of nodes node) (node_of nodes peer) up) (Err Unknown) (marked_names nodes (node_of nodes node) (node_of nodes peer) up (node_fits nodes node some)) tt

mark_names_by : (nodes : ℕ) (o : Option (List ℕ × List ℕ × List ℕ)) → 1 ≤ nodes → Names nodes (mark_by nodes o)
mark_names_by nodes None some = tt
mark_names_by nodes (Some words) some = mark_names nodes words.0 words.1 (up_of words.2) some

status_names : (nodes : ℕ) (words : List (List ℕ)) → Names nodes (lone_command command.Status words)
status_names nodes [] = tt
status_names nodes (word ∷ words) = tt

stop_names : (nodes : ℕ) (words : List (List ℕ)) → Names nodes (lone_command command.Stop words)
stop_names nodes [] = tt
stop_names nodes (word ∷ words) = tt

named_names : (nodes : ℕ) (word : List ℕ) (words : List (List ℕ)) → 1 ≤ nodes → Names nodes (command_named nodes word words)
named_names nodes word words some =
    either nodes (bytes_eq word (codes "mark")) (mark_command nodes words) _ (mark_names_by nodes (three_of words) some)
    (either nodes (bytes_eq word (codes "flush")) (node_command command.Flush nodes words) _ (flush_by nodes (one_of words) some)
    (either nodes (bytes_eq word (codes "merge")) (node_command command.Merge nodes words) _ (merge_by nodes (one_of words) some)
    (either nodes (bytes_eq word (codes "status")) (lone_command command.Status words) _ (status_names nodes words)
    (either nodes (bytes_eq word (codes "stop")) (lone_command command.Stop words) (Err Unknown) (stop_names nodes words) tt))))

in_names : (nodes : ℕ) (words : List (List ℕ)) → 1 ≤ nodes → Names nodes (command_in nodes words)
in_names nodes [] some = tt
in_names nodes (word ∷ words) some = named_names nodes word words some

by_names : (nodes : ℕ) (o : Option (List (List ℕ))) → 1 ≤ nodes → Names nodes (command_by nodes o)
by_names nodes None some = tt
by_names nodes (Some words) some = in_names nodes words some

line_names : (nodes : ℕ) (line : List ℕ) → 1 ≤ nodes → Names nodes (command_of nodes line)
line_names nodes line some =
    either nodes (length line == 0) (Err Unknown) _ tt
    (either nodes (nat_lt longest_line (length line)) (Err Unknown) (command_by nodes (words_of line)) tt (by_names nodes (words_of line) some))

-- what a line says, as it was read
pub said_names : (said : Result Command ConsoleError) (nodes count : ℕ) (line : List ℕ) → said ≡ command_of count line → count ≡ nodes → 1 ≤ nodes → IfOk said (λ (c : Command). NamesNodes nodes c)
said_names said nodes count line is same some =
    subst (λ (r : Result Command ConsoleError). Names nodes r) (sym is) (subst (λ (n : ℕ). Names nodes (command_of n line)) (sym same) (line_names nodes line some))
