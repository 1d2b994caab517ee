use Rattle.writing.proofs.WriteSteps as wl
use Rattle.writing.proofs.packed_record.Goals as goal

pub returns-then-bits-eq1 : goal.returns-then-bits-eq1
returns-then-bits-eq1 c = let z = wl.packs_depth c.record_bits-bits.result c.args.previous c.args.x c.record_bits-bits.ensures c.to_le_bytes.result c.to_le_bytes.ensures c.if-bits-eq1.true in record { bytes_value = z.0; len_bound = z.1 }

pub returns-else-bits-eq1 : goal.returns-else-bits-eq1
returns-else-bits-eq1 c = let z = wl.packs_no_depth c.record_bits-bits.result c.args.previous c.args.x c.record_bits-bits.ensures c.to_le_bytes.result c.to_le_bytes.ensures c.if-bits-eq1.false in record { bytes_value = z.0; len_bound = z.1 }
