use Rattle.std.proofs.Common.{◌↔◌, subst, IsTrue, Bool}
use Rattle.partition_content.specs.declared.keys.Keys.{Keys}
use Rattle.partition_content.specs.Keys.{span_for}
use Rattle.partition_content.specs.Slots.{IsOutrankedUnder, helds_of}
use Rattle.partition_content.proofs.ReachLemmas.{reached_under, reached_bare, reached_else}
use Rattle.partition_content.proofs.taking.is_outranked_over.Goals as goal

pub returns-then-bare-clause-missed : goal.returns-then-bare-clause-missed
returns-then-bare-clause-missed c = λ f r. reached_bare (helds_of c.args.slots.now) c.args.x.now c.requires.good (c.requires.bare c.if-bare.true) r

pub returns-then-is_outranked_under-clause-told : goal.returns-then-is_outranked_under-clause-told
returns-then-is_outranked_under-clause-told c =
    λ t. reached_under c.args.bare (helds_of c.args.slots.now) c.args.x.now c.args.x.now.place
    ((subst (λ (k : Keys). IsTrue c.is_outranked_under.result ↔ IsOutrankedUnder (helds_of c.args.slots.now) k.span c.args.x.now) c.requires.keys c.is_outranked_under.ensures).0 c.if-is_outranked_under.true)

pub returns-clause-missed : goal.returns-clause-missed
returns-clause-missed c =
    λ f r. reached_else (helds_of c.args.slots.now) c.args.x.now c.is_outranked_under.result c.is_outranked_by_wide.result c.requires.good
    (subst (λ (b : Bool). IsTrue c.is_outranked_under.result ↔ IsOutrankedUnder (helds_of c.args.slots.now) (span_for b c.args.x.now.place) c.args.x.now) c.if-bare.false
    (subst (λ (k : Keys). IsTrue c.is_outranked_under.result ↔ IsOutrankedUnder (helds_of c.args.slots.now) k.span c.args.x.now) c.requires.keys c.is_outranked_under.ensures))
    c.if-is_outranked_under.false c.is_outranked_by_wide.ensures.missed f r
