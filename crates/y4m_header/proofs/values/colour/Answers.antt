use Rattle.std.proofs.Common.{◌≡◌, codes, arith, rules, refl}
use Rattle.std.proofs.lemmas.Slice.Eq.{text_from_reads}
use Rattle.y4m_header.proofs.values.colour.Goals as goal

pub returns-in-52-4 : goal.returns-in-52-4
returns-in-52-4 c =
    let e : c.args.name.now ≡ codes "444alpha" = text_from_reads c.args.name.now (codes "444alpha") (omega arith) (search rules) in
    rw e refl

pub returns-in-52-5 : goal.returns-in-52-5
returns-in-52-5 c =
    let e : c.args.name.now ≡ codes "420jpeg" = text_from_reads c.args.name.now (codes "420jpeg") (omega arith) (search rules) in
    rw e refl

pub returns-in-52-6 : goal.returns-in-52-6
returns-in-52-6 c =
    let e : c.args.name.now ≡ codes "420mpeg2" = text_from_reads c.args.name.now (codes "420mpeg2") (omega arith) (search rules) in
    rw e refl

pub returns-in-52-7 : goal.returns-in-52-7
returns-in-52-7 c =
    let e : c.args.name.now ≡ codes "420paldv" = text_from_reads c.args.name.now (codes "420paldv") (omega arith) (search rules) in
    rw e refl
