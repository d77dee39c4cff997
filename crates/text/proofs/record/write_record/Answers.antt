-- The parts of a record are written one behind the other; what is left of it gives the whole.
use Rattle.std.proofs.Common.{length-append, arith}
use Rattle.text.specs.Format.{untried, Message, escape}
use Rattle.text.proofs.WriteLaws.{last}
use Rattle.text.proofs.RecordLaws.{after_name, after_body, record_length, wrote_id, byte, text}
use Rattle.text.proofs.record.write_record.Goals as goal

pub print_id-a-requires : goal.print_id-a-requires
print_id-a-requires c = omega (arith, record_length (untried c.args.id c.args.name.now c.args.body.now), c.requires)

pub put-b-requires : goal.put-b-requires
put-b-requires c =
    let m : Message = untried c.args.id c.args.name.now c.args.body.now in
    let w = wrote_id m c.requires c.print_id-a.ensures in omega (arith, w.room)

pub put_escaped-c-requires : goal.put_escaped-c-requires
put_escaped-c-requires c =
    let m : Message = untried c.args.id c.args.name.now c.args.body.now in
    let w = byte (wrote_id m c.requires c.print_id-a.ensures) c.put-b.ensures in
    omega (arith, w.room, length-append (escape m.name) (after_name m))

pub put-d-requires : goal.put-d-requires
put-d-requires c =
    let m : Message = untried c.args.id c.args.name.now c.args.body.now in
    let b = byte (wrote_id m c.requires c.print_id-a.ensures) c.put-b.ensures in
    let w = text (after_name m) b c.put_escaped-c.ensures in omega (arith, w.room)

pub put_escaped-e-requires : goal.put_escaped-e-requires
put_escaped-e-requires c =
    let m : Message = untried c.args.id c.args.name.now c.args.body.now in
    let b = byte (wrote_id m c.requires c.print_id-a.ensures) c.put-b.ensures in
    let w = byte (text (after_name m) b c.put_escaped-c.ensures) c.put-d.ensures in
    omega (arith, w.room, length-append (escape m.body) after_body)

pub put-requires : goal.put-requires
put-requires c =
    let m : Message = untried c.args.id c.args.name.now c.args.body.now in
    let b = byte (wrote_id m c.requires c.print_id-a.ensures) c.put-b.ensures in
    let d = byte (text (after_name m) b c.put_escaped-c.ensures) c.put-d.ensures in
    let w = text after_body d c.put_escaped-e.ensures in omega (arith, w.room)

pub returns : goal.returns
returns c =
    let m : Message = untried c.args.id c.args.name.now c.args.body.now in
    let b = byte (wrote_id m c.requires c.print_id-a.ensures) c.put-b.ensures in
    let d = byte (text (after_name m) b c.put_escaped-c.ensures) c.put-d.ensures in
    last (text after_body d c.put_escaped-e.ensures) c.put.ensures
