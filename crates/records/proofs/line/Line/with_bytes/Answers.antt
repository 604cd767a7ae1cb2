use Rattle.std.proofs.Common.{◌+◌, length, refl, ap, ◌∙◌, arith}
use Rattle.std.proofs.lemmas.Slice.{put_mid-paste}
use Rattle.records.specs.declared.line.Line.{Line}
use Rattle.records.proofs.Texts.{line_more}
use Rattle.records.proofs.line.Line.with_bytes.Goals as goal

pub returns-clause-text : goal.returns-clause-text
returns-clause-text c = λ text e.
    ap {B = Line} (λ bytes. record { bytes = bytes; len = c.args.self.len + length c.args.more.now })
    (put_mid-paste c.args.self.len _ c.args.self.bytes _ c.args.more.now (length c.args.more.now) c.copy_from_slice.ensures.after (omega arith) refl)
    ∙ line_more c.args.self text c.args.more.now e c.requires
