use Rattle.std.proofs.Common.{rules, sym, ap, codes, arith}
use Rattle.std.proofs.lemmas.Slice.Eq.{text_from_reads}
use Rattle.script.specs.Choices.{kind_of}
use Rattle.script.proofs.choices.kind.Goals as goal

pub returns-in-compound : goal.returns-in-compound
returns-in-compound c = ap kind_of (sym (text_from_reads c.args.word.now (codes "compound") (omega arith) (search rules)))

pub returns-in-trimesh : goal.returns-in-trimesh
returns-in-trimesh c = ap kind_of (sym (text_from_reads c.args.word.now (codes "trimesh") (omega arith) (search rules)))

pub returns-in-polyline : goal.returns-in-polyline
returns-in-polyline c = ap kind_of (sym (text_from_reads c.args.word.now (codes "polyline") (omega arith) (search rules)))

pub returns-in-heightfield : goal.returns-in-heightfield
returns-in-heightfield c = ap kind_of (sym (text_from_reads c.args.word.now (codes "heightfield") (omega arith) (search rules)))

pub returns-in-voxels : goal.returns-in-voxels
returns-in-voxels c = ap kind_of (sym (text_from_reads c.args.word.now (codes "voxels") (omega arith) (search rules)))
