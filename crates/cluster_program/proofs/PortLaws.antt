-- The port that the words name.
use Rattle.std.proofs.Common.{◌≡◌, ℕ, Option, Some, subst, sym, ◌∙◌, ap}
use Rattle.cluster_program.specs.declared.command.Command.{Command}
use Rattle.cluster_program.specs.declared.command.Command.TheVariants.{Serve}

serve_once : (p port : ℕ) → Some (Serve p) ≡ Some (Serve port) → p ≡ port
serve_once p port is = cc

-- what holds at the port that was found holds at the one that is named
pub at_port : (P : ℕ → Type 0) (named : Option Command) (found : Command) (p : ℕ) → Some found ≡ named → found ≡ Serve p → P p → (port : ℕ) → named ≡ Some (Serve port) → P port
at_port P named found p is serve holds port named_so =
    subst P (serve_once p port (ap (λ (c : Command). Some c) (sym serve) ∙ is ∙ named_so)) holds
