use Rattle.std.proofs.Common.{rules, arith, length, ◌≡◌, ◌+◌, ◌≤◌, Err}
use Rattle.streams.proofs.InputLaws.{bytes_told, end_told, failure_told, put_length, more_taken, end_taken, failed_taken, full_taken, read_within, failed_within}
use Rattle.streams.proofs.read.Goals as goal

pub loop-size-init : goal.loop-size-init
loop-size-init g c = (omega arith, search rules)

pub returns-in_err-more-clause-within : goal.returns-in_err-more-clause-within
returns-in_err-more-clause-within g c =
    let e : c.from_residual.result ≡ Err c.in_err-more.field-0.0 = search rules in rw e (failed_within _ _)

pub returns-in_err-more-clause-bytes : goal.returns-in_err-more-clause-bytes
returns-in_err-more-clause-bytes g c = let l = c.loop-size in
    let e : c.from_residual.result ≡ Err c.in_err-more.field-0.0 = search rules in
    rw e (failed_taken l.buffer c.read.new.buf l.size l.invariant.0 (search rules) _ _ _ l.invariant.1 _ c.read.ensures.bound c.read.ensures.bytes _ (failure_told _ c.told.ensures c.in_err-more.was))

pub returns-in_default-clause-within : goal.returns-in_default-clause-within
returns-in_default-clause-within g c = let l = c.loop-size in
    let p = put_length l.buffer c.read.new.buf l.size l.invariant.0 (search rules) in read_within _ _ (omega (arith, p, l.invariant.0))

pub returns-in_default-clause-bytes : goal.returns-in_default-clause-bytes
returns-in_default-clause-bytes g c = let l = c.loop-size in
    end_taken l.buffer c.read.new.buf l.size l.invariant.0 (search rules) _ _ _ l.invariant.1 _ c.read.ensures.bound c.read.ensures.bytes (end_told _ c.told.ensures c.in_ok-more.was c.in_default.is) (search rules)

pub overflow_add-size : goal.overflow_add-size
overflow_add-size g c = let l = c.loop-size in let told = bytes_told _ c.told.ensures c.in_ok-more.was c.in-Some.is in
    let more = more_taken l.buffer c.read.new.buf l.size l.invariant.0 (search rules) _ _ _ l.invariant.1 _ c.read.ensures.bound c.read.ensures.bytes told.0 in
    let fits : l.size + c.in-Some.more ≤ length l.buffer = omega (arith, more.0, put_length l.buffer c.read.new.buf l.size l.invariant.0 (search rules)) in search rules

pub loop-size-smaller : goal.loop-size-smaller
loop-size-smaller g c = let l = c.loop-size in let told = bytes_told _ c.told.ensures c.in_ok-more.was c.in-Some.is in
    let more = more_taken l.buffer c.read.new.buf l.size l.invariant.0 (search rules) _ _ _ l.invariant.1 _ c.read.ensures.bound c.read.ensures.bytes told.0 in
    omega (arith, more.0, told.1, put_length l.buffer c.read.new.buf l.size l.invariant.0 (search rules))

pub loop-size-preserved : goal.loop-size-preserved
loop-size-preserved g c = let l = c.loop-size in let told = bytes_told _ c.told.ensures c.in_ok-more.was c.in-Some.is in
    more_taken l.buffer c.read.new.buf l.size l.invariant.0 (search rules) _ _ _ l.invariant.1 _ c.read.ensures.bound c.read.ensures.bytes told.0

pub returns-clause-within : goal.returns-clause-within
returns-clause-within g c = read_within _ _ c.loop-size.invariant.0

pub returns-clause-bytes : goal.returns-clause-bytes
returns-clause-bytes g c = let l = c.loop-size in full_taken l.buffer l.size _ _ (search rules) l.invariant.1
