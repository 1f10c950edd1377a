use Rattle.std.proofs.Common.{◌+◌, get_or, take, drop, refl, arith}
use Rattle.av_faults.specs.declared.fault.Fault.TheVariants.{MissingValue, BadNumber, BadEnding, SameName}
use Rattle.av_words.specs.WordRoles.{line_of}
use Rattle.av_words.proofs.WordCheckLemmas.{no_item, item_here, ranked, first_at, rank_below, ends_here, not_so}
use Rattle.av_words.proofs.word_checks.check_item.Goals as goal

pub returns-then-lacks_value-clause-fault : goal.returns-then-lacks_value-clause-fault
returns-then-lacks_value-clause-fault c =
    let items = c.args.items.now in
    let line = line_of items in
    let n = c.args.number in
    let item = get_or items n no_item in
    let here = item_here items n no_item c.requires.within in
    let unknown = c.is_unknown.ensures (take n line) c.requires.read in
    let after = c.has_file_after.ensures in
    let lacks = c.lacks_value.ensures (drop (n + 1) line) (ends_here items n c.requires.within) (after.after line c.requires.last) (after.none line c.requires.last) in
    rw c.refuse-then-lacks_value.ensures (first_at line n item.role item.word.now here (MissingValue n) (record { role = item.role; word = item.word.now; here = here; fails = lacks.0 c.if-lacks_value.true }) refl (λ _. not_so c.is_unknown.result c.if-is_unknown.false unknown) (λ less. absurd (omega arith)) (λ less. absurd (omega arith)) (λ less. absurd (omega arith)) (λ less. absurd (omega arith)))

pub returns-then-branch-clause-fault : goal.returns-then-branch-clause-fault
returns-then-branch-clause-fault c =
    let items = c.args.items.now in
    let line = line_of items in
    let n = c.args.number in
    let item = get_or items n no_item in
    let here = item_here items n no_item c.requires.within in
    let unknown = c.is_unknown.ensures (take n line) c.requires.read in
    let after = c.has_file_after.ensures in
    let lacks = c.lacks_value.ensures (drop (n + 1) line) (ends_here items n c.requires.within) (after.after line c.requires.last) (after.none line c.requires.last) in
    rw c.refuse-then-branch.ensures (first_at line n item.role item.word.now here (BadNumber n) (record { role = item.role; word = item.word.now; here = here; fails = c.in_ok-is_bad_number.ensures.0 c.if-branch.true }) refl (λ _. not_so c.is_unknown.result c.if-is_unknown.false unknown) (λ _. not_so c.lacks_value.result c.if-lacks_value.false lacks) (λ less. absurd (omega arith)) (λ less. absurd (omega arith)) (λ less. absurd (omega arith)))

pub returns-then-has_bad_ending-clause-fault : goal.returns-then-has_bad_ending-clause-fault
returns-then-has_bad_ending-clause-fault c =
    let items = c.args.items.now in
    let line = line_of items in
    let n = c.args.number in
    let item = get_or items n no_item in
    let here = item_here items n no_item c.requires.within in
    let unknown = c.is_unknown.ensures (take n line) c.requires.read in
    let after = c.has_file_after.ensures in
    let lacks = c.lacks_value.ensures (drop (n + 1) line) (ends_here items n c.requires.within) (after.after line c.requires.last) (after.none line c.requires.last) in
    rw c.refuse-then-has_bad_ending.ensures (first_at line n item.role item.word.now here (BadEnding n) (record { role = item.role; word = item.word.now; here = here; fails = c.has_bad_ending.ensures.0 c.if-has_bad_ending.true }) refl (λ _. not_so c.is_unknown.result c.if-is_unknown.false unknown) (λ _. not_so c.lacks_value.result c.if-lacks_value.false lacks) (λ _. not_so c.in_ok-is_bad_number.field-0 c.if-branch.false c.in_ok-is_bad_number.ensures) (λ less. absurd (omega arith)) (λ less. absurd (omega arith)))

pub returns-then-is_same_name-clause-fault : goal.returns-then-is_same_name-clause-fault
returns-then-is_same_name-clause-fault c =
    let items = c.args.items.now in
    let line = line_of items in
    let n = c.args.number in
    let item = get_or items n no_item in
    let here = item_here items n no_item c.requires.within in
    let unknown = c.is_unknown.ensures (take n line) c.requires.read in
    let after = c.has_file_after.ensures in
    let lacks = c.lacks_value.ensures (drop (n + 1) line) (ends_here items n c.requires.within) (after.after line c.requires.last) (after.none line c.requires.last) in
    let same = c.is_same_name.ensures (take n line) c.requires.read in
    rw c.refuse-then-is_same_name.ensures (first_at line n item.role item.word.now here (SameName n) (record { role = item.role; word = item.word.now; here = here; fails = same.0 c.if-is_same_name.true }) refl (λ _. not_so c.is_unknown.result c.if-is_unknown.false unknown) (λ _. not_so c.lacks_value.result c.if-lacks_value.false lacks) (λ _. not_so c.in_ok-is_bad_number.field-0 c.if-branch.false c.in_ok-is_bad_number.ensures) (λ _. not_so c.has_bad_ending.result c.if-has_bad_ending.false c.has_bad_ending.ensures) (λ less. absurd (omega arith)))

pub returns-clause-none : goal.returns-clause-none
returns-clause-none c fault is =
    let items = c.args.items.now in
    let line = line_of items in
    let n = c.args.number in
    let item = get_or items n no_item in
    let here = item_here items n no_item c.requires.within in
    let unknown = c.is_unknown.ensures (take n line) c.requires.read in
    let after = c.has_file_after.ensures in
    let lacks = c.lacks_value.ensures (drop (n + 1) line) (ends_here items n c.requires.within) (after.after line c.requires.last) (after.none line c.requires.last) in
    let same = c.is_same_name.ensures (take n line) c.requires.read in
    ranked line n item.role item.word.now here 5 (λ _. not_so c.is_unknown.result c.if-is_unknown.false unknown) (λ _. not_so c.lacks_value.result c.if-lacks_value.false lacks) (λ _. not_so c.in_ok-is_bad_number.field-0 c.if-branch.false c.in_ok-is_bad_number.ensures) (λ _. not_so c.has_bad_ending.result c.if-has_bad_ending.false c.has_bad_ending.ensures) (λ _. not_so c.is_same_name.result c.if-is_same_name.false same) fault is (rank_below fault n is)
