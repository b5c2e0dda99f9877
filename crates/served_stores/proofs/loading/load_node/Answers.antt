use Rattle.std.proofs.Common.{◌≡◌, ℕ, List, Err, ap, subst, ◌∙◌, arith}
use mathlib.Core.Path.{fun_ext}
use Rattle.served_stores.specs.Shown.{shown}
use Rattle.served_stores.specs.declared.fault.LoadFault.TheVariants as load_fault
use Rattle.served_stores.proofs.Backing.{same_on}
use Rattle.served_stores.proofs.loading.load_node.Goals as goal

pub returns-in-Err-clause-damaged : goal.returns-in-Err-clause-damaged
returns-in-Err-clause-damaged g c n f p is =
    let told : c.give_back.result ≡ load_fault.Damaged n f p = cc in
    let from = c.give_back.ensures.damaged n f p told in
    (from.0, λ honest. subst (λ (files : ℕ → List ℕ). g.R.Replica.is_damaged files f p) (fun_ext (c.in_ok-store.ensures.seen honest)) (c.in-Err.ensures.damaged from.1.0 f p (ap Err from.1.1) honest))

pub returns-in-Err-clause-others : goal.returns-in-Err-clause-others
returns-in-Err-clause-others g c n apart =
    let show = shown g.D.Stores.holds g.D.Stores.faults g.D.Stores.taken g.D.Stores.is_out in
    same_on n (show c.args.stores.now) (show c.take_store.new.stores) (show c.give_back.new.stores) (c.take_store.ensures.others n apart) (c.give_back.ensures.others n apart)

pub returns-in-Ok-clause-taken : goal.returns-in-Ok-clause-taken
returns-in-Ok-clause-taken g c =
    let counted = c.in_ok-store.ensures.taken in
    let on = c.in-Ok.ensures.faults in
    record {
      loaded = record {
        me = c.in-Ok.ensures.core.0;
        setting_is = c.in-Ok.ensures.core.1 ∙ c.in_ok-setting.ensures;
        runs = c.in-Ok.ensures.core.2;
        whole = c.in-Ok.ensures.whole;
        tied = c.in-Ok.ensures.tied;
        found = λ honest. subst (λ (files : ℕ → List ℕ). g.R.Replica.stands_for files (g.R.Replica.durable c.in-Ok.node.replica)) (fun_ext (c.in_ok-store.ensures.seen honest)) (c.in-Ok.ensures.found honest);
        state = c.in-Ok.ensures.state;
        fits = c.in-Ok.ensures.fits;
      };
      was_home = c.in_ok-store.ensures.out.0;
      out = c.in_ok-store.ensures.out.1;
      taken = omega (arith, counted, on);
      later = c.in_ok-store.ensures.later;
    }
