use Rattle.std.proofs.Common.{◌≡◌, List, ap, sym, subst, Vec, Global}
use Rattle.list_replica.specs.declared.staging.Staged.{Staged}
use Rattle.list_replica.specs.Staging.{IsStaging}
use Rattle.list_replica.proofs.Sound.{sound_after}
use Rattle.list_replica.proofs.memtable.Memtable.take_in.Goals as goal

pub returns-clause-sound : goal.returns-clause-sound
returns-clause-sound c =
    let same : c.replace-staged.result.items ≡ c.args.self.now.staged.items = ap (λ (v : Vec Staged Global). v.items) c.replace-staged.ensures.value in
    sound_after c.args.self.now _ c.args.entry.now c.args.at c.replace-staged.result.items c.requires.sound c.take_all.ensures.ordered c.and-self.ensures c.requires.no_purges c.requires.arrival
    (subst (λ (l : List Staged). IsStaging c.args.entry.now.items l) (sym same) c.requires.staged.staging) c.take_all.ensures.comes
