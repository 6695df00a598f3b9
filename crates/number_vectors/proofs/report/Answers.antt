-- What was read lies within the bytes, and takes one to ten of them.
use Rattle.std.proofs.Common.{sym, arith}
use Rattle.number.proofs.laws.Laws.{decode_within}
use Rattle.number_vectors.proofs.report.Goals as goal

pub comes_back-requires : goal.comes_back-requires
comes_back-requires g c =
    let w = decode_within c.args.bytes.now 0 (sym c.in-Some.ensures) in
    (omega (arith, w.inside), w.ten, w.some)
