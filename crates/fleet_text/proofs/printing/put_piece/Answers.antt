use Rattle.fleet_text.proofs.FleetTextLaws.{first_room, first_piece, pair_room, later_piece, root_parting, child_parting}
use Rattle.fleet_text.proofs.printing.put_piece.Goals.{then-x-lt-UNIT, else-x-lt-UNIT}
use Rattle.fleet_text.proofs.printing.put_piece.Goals as goal

pub put_pair-requires : goal.put_pair-requires
put_pair-requires c = first_room c.args.before c.args.x c.if-before-eq0.true _ _ c.requires

pub returns-then-before-eq0 : goal.returns-then-before-eq0
returns-then-before-eq0 c = first_piece c.args.before c.args.x c.if-before-eq0.true c.put_pair.ensures.put

pub put_pair-requires-2 : goal.put_pair-requires-2
put_pair-requires-2 c = pair_room c.args.before c.args.x c.if-before-eq0.false c.requires c.put_byte-parted.ensures

pub returns : goal.returns
returns c =
    later_piece c.args.before c.args.x c.if-before-eq0.false
    (elim c.if-x-lt-UNIT.branch [
      | then-x-lt-UNIT w ↦ root_parting c.args.x w.if-x-lt-UNIT.true w.parting-is
      | else-x-lt-UNIT w ↦ child_parting c.args.x w.if-x-lt-UNIT.false w.parting-is
    ])
    c.put_byte-parted.ensures c.put_pair-2.ensures.put
