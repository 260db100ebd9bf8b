use Rattle.std.proofs.Common.{rules, tests, arith, sym, ◌∙◌, ◌≡◌, ◌≢◌, length, length-append}
use Rattle.hosts.specs.declared.questions.Child.{Child}
use Rattle.casts.specs.Pieces.{is_proxy}
use Rattle.pair_casts.specs.FastShapes.{piece}
use Rattle.pair_casts.proofs.Pieces.{next_full, next_other, next_piece}
use Rattle.pair_casts.proofs.fast_shape.pieces.Goals as goal
use Rattle.pair_casts.proofs.fast_shape.pieces.Goals.{then-not-is_full+then-is_piece, else-not-is_full, else-not-is_full-via-then-not-is_full+else-is_piece, else-not-is_full-via-else-not-is_full}

pub loop-child-preserved : goal.loop-child-preserved
loop-child-preserved g c =
    let h = g.H.Host.answers c.args.host.now in
    let f = piece h c.args.sweep in
    let p = λ (k : Child). is_proxy (h.kind k.shape) in
    let cs = c.args.children.now in
    let i = c.loop-child.child-index in
    let ys = c.loop-child.pieces.items in
    let so = c.loop-child.invariant.so_far in
    elim c.if-not-is_full.branch [
      | then-not-is_full+then-is_piece w ↦
          let room : length ys ≢ 16 = search (rules, tests) in
          let more = next_piece 16 f p cs i _ ys c.loop-child-test.true so (sym w.is_piece.ensures ∙ w.if-is_piece.true) room in
          let grown = w.push.ensures.room (grind arith) in
          record { few = grind (arith, length-append); so_far = cc }
      | else-not-is_full w ↦ record {
        few = grind arith;
        so_far = elim w.else-not-is_full.branch [
          | else-not-is_full-via-then-not-is_full+else-is_piece v ↦
              let same = next_other 16 f p cs i _ ys c.loop-child-test.true so (sym v.is_piece.ensures ∙ v.if-is_piece.false) in cc
          | else-not-is_full-via-else-not-is_full v ↦
              let full : length ys ≡ 16 = search (rules, tests) in
              let same = next_full 16 f p cs i ys so full in cc
        ];
      }
    ]
