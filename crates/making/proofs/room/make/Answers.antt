-- `make`: the sheet grows in scratch, then is written whole.
use Prim.Native.Nat.{ℕ}
use native.Mathlib.Omega.{arith}
use borrow.Author.Rules.{rules}
use mathlib.Core.Path.{◌≡◌, sym, ◌∙◌}
use Rattle.std.specs.Prelude.{Err}
use lib.ListN.{length-replicate}
use lib.Seq.{length-take-le}
use Rattle.logs.specs.laws.SuitesLaw.{suite-long}
use Rattle.writing.proofs.laws.SpelledLaw.{spelled-both}
use Rattle.making.proofs.MadeLaw.{grown-none, few-tests, some_bytes, made_inside, made-long, makes-whole, makes_none, makes-short, makes-room}
use Rattle.making.proofs.room.make.Goals as goal

pub returns-then-buffer-lt16384 : goal.returns-then-buffer-lt16384
returns-then-buffer-lt16384 c = λ sh rd. rw c.new.ensures (makes-short sh _ c.if-buffer-lt16384.true)

pub log_suite-observed-requires : goal.log_suite-observed-requires
log_suite-observed-requires c = (c.requires.0, suite-long c.requires.1 (omega (arith, length-replicate {A = ℕ} 24576 0)))

pub bytes-length-requires : goal.bytes-length-requires
bytes-length-requires c = omega (arith, c.requires.1.short, length-replicate {A = ℕ} 16384 0)

pub overflow_sub-from : goal.overflow_sub-from
overflow_sub-from c = omega (arith, some_bytes c.requires.1, c.bytes-length.ensures.many)

pub overflow_sub-from-2 : goal.overflow_sub-from-2
overflow_sub-from-2 c = few-tests c.requires.1

pub grow_whole-requires : goal.grow_whole-requires
grow_whole-requires c =
    let rd = c.requires.1 in
    let logged = c.log_suite-observed.ensures c.requires.0 (suite-long rd (omega (arith, length-replicate {A = ℕ} 24576 0))) in
    let grown = grown-none rd logged (c.log_suite-observed.auto.log ∙ length-replicate {A = ℕ} 24576 0) c.bytes-length.ensures (length-replicate {A = ℕ} 16384 0) in
    (_, c.requires.0, grown)

pub returns-in_err-grown : goal.returns-in_err-grown
returns-in_err-grown c = λ sh rd.
    let logged = c.log_suite-observed.ensures sh (suite-long rd (omega (arith, length-replicate {A = ℕ} 24576 0))) in
    let grown = grown-none rd logged (c.log_suite-observed.auto.log ∙ length-replicate {A = ℕ} 24576 0) c.bytes-length.ensures (length-replicate {A = ℕ} 16384 0) in
    let same : c.from_residual.result ≡ Err c.in_err-grown.field-0.0 = search rules in
    rw same (makes-room sh _ (omega (arith, c.if-buffer-lt16384.false)) (makes_none _ (rw c.in_err-grown.was at (c.grow_whole.ensures _ sh grown))))

pub slice_bounds-made-end : goal.slice_bounds-made-end
slice_bounds-made-end c =
    let rd = c.requires.1 in
    let logged = c.log_suite-observed.ensures c.requires.0 (suite-long rd (omega (arith, length-replicate {A = ℕ} 24576 0))) in
    let grown = grown-none rd logged (c.log_suite-observed.auto.log ∙ length-replicate {A = ℕ} 24576 0) c.bytes-length.ensures (length-replicate {A = ℕ} 16384 0) in
    let made = rw c.in_ok-grown.was at (c.grow_whole.ensures _ c.requires.0 grown) in
    made_inside made

pub slice_bounds-bytes-end-2 : goal.slice_bounds-bytes-end-2
slice_bounds-bytes-end-2 c =
    let rd = c.requires.1 in
    let logged = c.log_suite-observed.ensures c.requires.0 (suite-long rd (omega (arith, length-replicate {A = ℕ} 24576 0))) in
    let grown = grown-none rd logged (c.log_suite-observed.auto.log ∙ length-replicate {A = ℕ} 24576 0) c.bytes-length.ensures (length-replicate {A = ℕ} 16384 0) in
    let made = rw c.in_ok-grown.was at (c.grow_whole.ensures _ c.requires.0 grown) in
    sym (length-take-le _ _ (made_inside made))

pub bytes-end-requires : goal.bytes-end-requires
bytes-end-requires c =
    let rd = c.requires.1 in
    let logged = c.log_suite-observed.ensures c.requires.0 (suite-long rd (omega (arith, length-replicate {A = ℕ} 24576 0))) in
    let grown = grown-none rd logged (c.log_suite-observed.auto.log ∙ length-replicate {A = ℕ} 24576 0) c.bytes-length.ensures (length-replicate {A = ℕ} 16384 0) in
    let made = rw c.in_ok-grown.was at (c.grow_whole.ensures _ c.requires.0 grown) in
    omega (arith, made-long made, c.if-buffer-lt16384.false)

pub byte-length-requires : goal.byte-length-requires
byte-length-requires c =
    let rd = c.requires.1 in
    let logged = c.log_suite-observed.ensures c.requires.0 (suite-long rd (omega (arith, length-replicate {A = ℕ} 24576 0))) in
    let grown = grown-none rd logged (c.log_suite-observed.auto.log ∙ length-replicate {A = ℕ} 24576 0) c.bytes-length.ensures (length-replicate {A = ℕ} 16384 0) in
    let made = rw c.in_ok-grown.was at (c.grow_whole.ensures _ c.requires.0 grown) in
    omega (arith, made-long made, c.if-buffer-lt16384.false, c.bytes-end.ensures.many, c.bytes-end.ensures.long)

pub returns : goal.returns
returns c = λ sh rd.
    let logged = c.log_suite-observed.ensures sh (suite-long rd (omega (arith, length-replicate {A = ℕ} 24576 0))) in
    let grown = grown-none rd logged (c.log_suite-observed.auto.log ∙ length-replicate {A = ℕ} 24576 0) c.bytes-length.ensures (length-replicate {A = ℕ} 16384 0) in
    let made = rw c.in_ok-grown.was at (c.grow_whole.ensures _ sh grown) in
    makes-room sh _ (omega (arith, c.if-buffer-lt16384.false)) (makes-whole made (spelled-both c.bytes-end.ensures c.byte-length.ensures))
