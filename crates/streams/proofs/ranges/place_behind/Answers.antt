use Rattle.std.proofs.Common.{◌≡◌, ◌<◌, arith, length, Some, None, sym}
use Rattle.std.proofs.lemmas.Grind.{common_steps}
use Rattle.store.specs.Indexes.{beyond}
use Rattle.streams.specs.Numbers.{last_of, number_of}
use Rattle.streams.proofs.RangeBlocks.{behind-place, few-left, none-given}
use Rattle.streams.proofs.TableBlocks.{behind-last}
use Rattle.streams.proofs.TableReads.{last-read, place-read}
use Rattle.store.specs.Contents.{Entry}
use Rattle.streams.proofs.ranges.place_behind.Goals as goal

pub returns-in_ok-key-in-Some-last_number-clause-left : goal.returns-in_ok-key-in-Some-last_number-clause-left
returns-in_ok-key-in-Some-last_number-clause-left c = λ shown tree entries made after on is none found.
    let found_rows = c.args.found.now.rows in
    let numbers = c.args.found.now.numbers in
    let columns = c.args.columns.now in
    let row = c.in-Some.row.now in
    let number = c.in-Some-last_number.number in
    let last : Some row ≡ last_of None found_rows = rw (c.as_slice.ensures, c.in-Some.is) at c.last_row.ensures in
    let last_number : Some number ≡ last_of None numbers = rw (c.as_slice-in-Some.ensures, c.in-Some-last_number.is) at c.last_number.ensures in
    behind-place columns shown tree entries made after c.args.most c.place_beyond.result found_rows numbers row number on is found.rows found.numbers
    (sym last) (sym last_number)
    c.place_beyond.ensures.goes_on (rw (c.in_ok-key-in-Some-last_number.ensures, c.as_slice-in-Some-last_number.ensures) at c.place_beyond.ensures.position)

pub returns-then-len-most-clause-left : goal.returns-then-len-most-clause-left
returns-then-len-most-clause-left c = λ shown tree entries made after on is none found.
    let few : length c.args.found.now.rows < c.args.most = grind (arith, common_steps) in
    few-left shown tree (beyond after (Some c.args.columns.now) entries) made c.args.most c.args.found.now.rows none found.rows few

pub returns-in-None-clause-left : goal.returns-in-None-clause-left
returns-in-None-clause-left c = λ shown tree entries made after on is none found.
    let above : 0 < c.args.most = grind (arith, common_steps) in
    let last : None ≡ last_of None c.args.found.now.rows = rw (c.as_slice.ensures, c.in-None.is) at c.last_row.ensures in
    few-left shown tree (beyond after (Some c.args.columns.now) entries) made c.args.most c.args.found.now.rows none found.rows
    (none-given c.args.found.now.rows c.args.most (sym last) above)

pub returns-in-None-last_number-clause-left : goal.returns-in-None-last_number-clause-left
returns-in-None-last_number-clause-left c = λ shown tree entries made after on is none found.
    let above : 0 < c.args.most = grind (arith, common_steps) in
    let last : None ≡ last_of None c.args.found.now.numbers = rw (c.as_slice-in-Some.ensures, c.in-None-last_number.is) at c.last_number.ensures in
    behind-last shown tree (beyond after (Some c.args.columns.now) entries) made c.args.most c.args.found.now.numbers none found.numbers
    (none-given c.args.found.now.numbers c.args.most (sym last) above)

pub returns-in_ok-key-in-Some-last_number-clause-reads : goal.returns-in_ok-key-in-Some-last_number-clause-reads
returns-in_ok-key-in-Some-last_number-clause-reads c = λ shown tree entries after on is found.
    let found_rows = c.args.found.now.rows in
    let numbers = c.args.found.now.numbers in
    let columns = c.args.columns.now in
    let row = c.in-Some.row.now in
    let number = c.in-Some-last_number.number in
    let last : Some row ≡ last_of None found_rows = rw (c.as_slice.ensures, c.in-Some.is) at c.last_row.ensures in
    let last_number : Some number ≡ last_of None numbers = rw (c.as_slice-in-Some.ensures, c.in-Some-last_number.is) at c.last_number.ensures in
    place-read columns shown tree entries after c.args.most c.place_beyond.result found_rows numbers row number on is found.rows found.numbers
    (sym last) (sym last_number)
    c.place_beyond.ensures.goes_on (rw (c.in_ok-key-in-Some-last_number.ensures, c.as_slice-in-Some-last_number.ensures) at c.place_beyond.ensures.position)

pub returns-then-len-most-clause-reads : goal.returns-then-len-most-clause-reads
returns-then-len-most-clause-reads c = λ shown tree entries after on is found.
    let few : length c.args.found.now.rows < c.args.most = grind (arith, common_steps) in
    last-read shown tree (beyond after (Some c.args.columns.now) entries) (λ (e : Entry). e.1) c.args.found.now.rows c.args.most found.rows few

pub returns-in-None-clause-reads : goal.returns-in-None-clause-reads
returns-in-None-clause-reads c = λ shown tree entries after on is found.
    let above : 0 < c.args.most = grind (arith, common_steps) in
    let last : None ≡ last_of None c.args.found.now.rows = rw (c.as_slice.ensures, c.in-None.is) at c.last_row.ensures in
    last-read shown tree (beyond after (Some c.args.columns.now) entries) (λ (e : Entry). e.1) c.args.found.now.rows c.args.most found.rows
    (none-given c.args.found.now.rows c.args.most (sym last) above)

pub returns-in-None-last_number-clause-reads : goal.returns-in-None-last_number-clause-reads
returns-in-None-last_number-clause-reads c = λ shown tree entries after on is found.
    let above : 0 < c.args.most = grind (arith, common_steps) in
    let last : None ≡ last_of None c.args.found.now.numbers = rw (c.as_slice-in-Some.ensures, c.in-None-last_number.is) at c.last_number.ensures in
    last-read shown tree (beyond after (Some c.args.columns.now) entries) number_of c.args.found.now.numbers c.args.most found.numbers
    (none-given c.args.found.now.numbers c.args.most (sym last) above)
