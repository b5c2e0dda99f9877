-- The definitions at small inputs.
use Rattle.std.proofs.Common.{◌≡◌, true, false, Some, Ok, Err, [], ◌∷◌, codes, refl}
use Rattle.peer_messages.specs.declared.event.What.TheVariants.{Alive, Flush, Tick}
use Rattle.node_console.specs.declared.command.Command.TheVariants as command
use Rattle.node_console.specs.declared.command.ConsoleError.TheVariants as error
use Rattle.served_console.specs.Answers.{nothing_told, turned_by, text_of}
use Rattle.served_console.specs.Asking.{asks_of, ask_of}
use Rattle.served_console.specs.Turns.{TakesLines}
use Rattle.served_console.specs.declared.answer.Refusal.TheVariants as refusal

a_mark : asks_of 3 (Ok (command.Mark 0 2 false)) ≡ ask_of 0 (Alive 2 false) ∷ []
a_mark = refl

a_merge : asks_of 3 (Ok (command.Merge 1)) ≡ ask_of 1 Flush ∷ []
a_merge = refl

a_status : asks_of 2 (Ok command.Status) ≡ ask_of 0 Tick ∷ ask_of 1 Tick ∷ []
a_status = refl

no_command : text_of (turned_by (Err error.Number) nothing_told).answer ≡ codes "?\n"
no_command = refl

done : text_of (turned_by (Ok command.Status) nothing_told).answer ≡ codes "ok\n"
done = refl

a_stop : (turned_by (Ok command.Stop) nothing_told).goes_on ≡ false
a_stop = refl

a_refusal : text_of (turned_by (Ok (command.Flush 1)) (record nothing_told { refused = Some refusal.NoRoom })).answer ≡ codes "no room\n"
a_refusal = refl

a_failure : text_of (turned_by (Ok command.Status) (record nothing_told { failed = true })).answer ≡ []
a_failure = refl

two_lines : TakesLines (codes "status\nstop\nmore") (codes "status" ∷ codes "stop" ∷ []) (codes "more")
two_lines = (refl, refl, (refl, refl, refl))
