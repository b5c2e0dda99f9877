use Rattle.std.proofs.Common.{refl}
use Rattle.source_lines.specs.Lines.{left_of}
use Rattle.cluster_program.proofs.HeadLaws.{read_from, refused_from}
use Rattle.cluster_program.proofs.head.head_script.Goals as goal

pub returns-in-Ok-clause-script : goal.returns-in-Ok-clause-script
returns-in-Ok-clause-script g c =
    read_from 67108864 (g.S.Source.remaining c.args.source.now) (g.S.Source.remaining c.head_text.new.source) c.in-Ok.text.items c.deref.result.now c.script_of.result c.head_text.new.lines
    refl c.in-Ok.ensures.text c.deref.ensures.value c.script_of.ensures.script

pub returns-in-Ok-clause-refused : goal.returns-in-Ok-clause-refused
returns-in-Ok-clause-refused g c =
    refused_from 67108864 (g.S.Source.remaining c.args.source.now) (left_of c.head_text.new.lines.ahead (g.S.Source.remaining c.head_text.new.source)) c.in-Ok.text.items c.deref.result.now
    c.script_of.result refl c.in-Ok.ensures.text c.deref.ensures.value c.script_of.ensures.refused
