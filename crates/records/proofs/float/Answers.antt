-- `records::float` is safe: the pattern is no NaN's where it is read.
use Rattle.std.proofs.lemmas.Float.{not_nan_f32_bits}
use Rattle.records.proofs.float.Goals as goal

pub float_from_bits-result : goal.float_from_bits-result
float_from_bits-result c = not_nan_f32_bits c.args.pattern c.if-pattern-gt2139095040.false
