use Rattle.std.proofs.Common.{◌≡◌, ◌∷◌, ◌++◌}
use Rattle.plan_lines.specs.Lines.{indented, plan_lines}
use Rattle.plan_lines.specs.Margin.{root_line}
use Rattle.plan_lines.proofs.Margins.{adds_child, adds_children}
use Rattle.plan_lines.proofs.Nodes.{lines_distinct, lines_filter, lines_group, lines_half, lines_hash, lines_inner, lines_left, lines_loop, lines_member, lines_opposite, lines_product, lines_project, lines_set, lines_sort}
use Rattle.plan_lines.proofs.plan.+put_plan.Goals as goal

pub returns-in-Filter : goal.returns-in-Filter
returns-in-Filter t c =
    let is = c.in-Filter.is in
    let node = lines_filter c.in-Filter.field-0 c.in-Filter.rows in
    let got = c.get.ensures in
    let made : plan_lines c.args.plan.now ≡ root_line c.args.plan.now ∷ indented (plan_lines c.get.result.now) = cc in
    adds_child c.args.margin.now c.in_ok-inner.inner (root_line c.args.plan.now) c.args.lines.now c.put_root.new.lines (plan_lines c.args.plan.now)
    c.in_ok-inner.ensures.inner c.in_ok-inner.ensures.line
    (plan_lines c.get.result.now) c.put_plan.new.lines made c.put_plan.result c.put_plan.ensures

pub returns-in-Group : goal.returns-in-Group
returns-in-Group t c =
    let is = c.in-Group.is in
    let node = lines_group c.in-Group.columns c.in-Group.functions c.in-Group.rows in
    let got = c.get-in-Group.ensures in
    let made : plan_lines c.args.plan.now ≡ root_line c.args.plan.now ∷ indented (plan_lines c.get-in-Group.result.now) = cc in
    adds_child c.args.margin.now c.in_ok-inner.inner (root_line c.args.plan.now) c.args.lines.now c.put_root.new.lines (plan_lines c.args.plan.now)
    c.in_ok-inner.ensures.inner c.in_ok-inner.ensures.line
    (plan_lines c.get-in-Group.result.now) c.put_plan-in-Group.new.lines made c.put_plan-in-Group.result c.put_plan-in-Group.ensures

pub returns-in-Project : goal.returns-in-Project
returns-in-Project t c =
    let is = c.in-Project.is in
    let node = lines_project c.in-Project.field-0 c.in-Project.rows in
    let got = c.get-in-Project.ensures in
    let made : plan_lines c.args.plan.now ≡ root_line c.args.plan.now ∷ indented (plan_lines c.get-in-Project.result.now) = cc in
    adds_child c.args.margin.now c.in_ok-inner.inner (root_line c.args.plan.now) c.args.lines.now c.put_root.new.lines (plan_lines c.args.plan.now)
    c.in_ok-inner.ensures.inner c.in_ok-inner.ensures.line
    (plan_lines c.get-in-Project.result.now) c.put_plan-in-Project.new.lines made c.put_plan-in-Project.result c.put_plan-in-Project.ensures

pub returns-in-Distinct : goal.returns-in-Distinct
returns-in-Distinct t c =
    let is = c.in-Distinct.is in
    let node = lines_distinct c.in-Distinct.rows in
    let got = c.get-in-Distinct.ensures in
    let made : plan_lines c.args.plan.now ≡ root_line c.args.plan.now ∷ indented (plan_lines c.get-in-Distinct.result.now) = cc in
    adds_child c.args.margin.now c.in_ok-inner.inner (root_line c.args.plan.now) c.args.lines.now c.put_root.new.lines (plan_lines c.args.plan.now)
    c.in_ok-inner.ensures.inner c.in_ok-inner.ensures.line
    (plan_lines c.get-in-Distinct.result.now) c.put_plan-in-Distinct.new.lines made c.put_plan-in-Distinct.result c.put_plan-in-Distinct.ensures

pub returns-in-Sort : goal.returns-in-Sort
returns-in-Sort t c =
    let is = c.in-Sort.is in
    let node = lines_sort c.in-Sort.field-0 c.in-Sort.rows in
    let got = c.get-in-Sort.ensures in
    let made : plan_lines c.args.plan.now ≡ root_line c.args.plan.now ∷ indented (plan_lines c.get-in-Sort.result.now) = cc in
    adds_child c.args.margin.now c.in_ok-inner.inner (root_line c.args.plan.now) c.args.lines.now c.put_root.new.lines (plan_lines c.args.plan.now)
    c.in_ok-inner.ensures.inner c.in_ok-inner.ensures.line
    (plan_lines c.get-in-Sort.result.now) c.put_plan-in-Sort.new.lines made c.put_plan-in-Sort.result c.put_plan-in-Sort.ensures

pub returns-in-IndexLoop : goal.returns-in-IndexLoop
returns-in-IndexLoop t c =
    let is = c.in-IndexLoop.is in
    let node = lines_loop c.in-IndexLoop.on c.in-IndexLoop.left c.in-IndexLoop.places c.in-IndexLoop.table c.in-IndexLoop.columns in
    let got = c.get-in-IndexLoop.ensures in
    let made : plan_lines c.args.plan.now ≡ root_line c.args.plan.now ∷ indented (plan_lines c.get-in-IndexLoop.result.now) = cc in
    adds_child c.args.margin.now c.in_ok-inner.inner (root_line c.args.plan.now) c.args.lines.now c.put_root.new.lines (plan_lines c.args.plan.now)
    c.in_ok-inner.ensures.inner c.in_ok-inner.ensures.line
    (plan_lines c.get-in-IndexLoop.result.now) c.put_plan-in-IndexLoop.new.lines made c.put_plan-in-IndexLoop.result c.put_plan-in-IndexLoop.ensures

pub returns-in-Product : goal.returns-in-Product
returns-in-Product t c =
    let is = c.in-Product.is in
    let node = lines_product c.in-Product.left c.in-Product.right in
    let first = c.get-in-Product.ensures in
    let second = c.get-in-Product-2.ensures in
    let made : plan_lines c.args.plan.now ≡ root_line c.args.plan.now ∷ indented (plan_lines c.get-in-Product.result.now ++ plan_lines c.get-in-Product-2.result.now) = cc in
    adds_children c.args.margin.now c.in_ok-inner.inner (root_line c.args.plan.now) c.args.lines.now c.put_root.new.lines (plan_lines c.args.plan.now)
    c.in_ok-inner.ensures.inner c.in_ok-inner.ensures.line
    (plan_lines c.get-in-Product.result.now) (plan_lines c.get-in-Product-2.result.now) c.put_plan-in-Product.new.lines c.put_plan-in-Product-2.new.lines
    made c.in_ok-put_plan-in-Product.ensures c.put_plan-in-Product-2.result c.put_plan-in-Product-2.ensures

pub returns-in-Inner : goal.returns-in-Inner
returns-in-Inner t c =
    let is = c.in-Inner.is in
    let node = lines_inner c.in-Inner.field-0 c.in-Inner.left c.in-Inner.right in
    let first = c.get-in-Inner.ensures in
    let second = c.get-in-Inner-2.ensures in
    let made : plan_lines c.args.plan.now ≡ root_line c.args.plan.now ∷ indented (plan_lines c.get-in-Inner.result.now ++ plan_lines c.get-in-Inner-2.result.now) = cc in
    adds_children c.args.margin.now c.in_ok-inner.inner (root_line c.args.plan.now) c.args.lines.now c.put_root.new.lines (plan_lines c.args.plan.now)
    c.in_ok-inner.ensures.inner c.in_ok-inner.ensures.line
    (plan_lines c.get-in-Inner.result.now) (plan_lines c.get-in-Inner-2.result.now) c.put_plan-in-Inner.new.lines c.put_plan-in-Inner-2.new.lines
    made c.in_ok-put_plan-in-Inner.ensures c.put_plan-in-Inner-2.result c.put_plan-in-Inner-2.ensures

pub returns-in-Left : goal.returns-in-Left
returns-in-Left t c =
    let is = c.in-Left.is in
    let node = lines_left c.in-Left.on c.in-Left.left c.in-Left.right c.in-Left.width in
    let first = c.get-in-Left.ensures in
    let second = c.get-in-Left-2.ensures in
    let made : plan_lines c.args.plan.now ≡ root_line c.args.plan.now ∷ indented (plan_lines c.get-in-Left.result.now ++ plan_lines c.get-in-Left-2.result.now) = cc in
    adds_children c.args.margin.now c.in_ok-inner.inner (root_line c.args.plan.now) c.args.lines.now c.put_root.new.lines (plan_lines c.args.plan.now)
    c.in_ok-inner.ensures.inner c.in_ok-inner.ensures.line
    (plan_lines c.get-in-Left.result.now) (plan_lines c.get-in-Left-2.result.now) c.put_plan-in-Left.new.lines c.put_plan-in-Left-2.new.lines
    made c.in_ok-put_plan-in-Left.ensures c.put_plan-in-Left-2.result c.put_plan-in-Left-2.ensures

pub returns-in-Half : goal.returns-in-Half
returns-in-Half t c =
    let is = c.in-Half.is in
    let node = lines_half c.in-Half.field-0 c.in-Half.left c.in-Half.right in
    let first = c.get-in-Half.ensures in
    let second = c.get-in-Half-2.ensures in
    let made : plan_lines c.args.plan.now ≡ root_line c.args.plan.now ∷ indented (plan_lines c.get-in-Half.result.now ++ plan_lines c.get-in-Half-2.result.now) = cc in
    adds_children c.args.margin.now c.in_ok-inner.inner (root_line c.args.plan.now) c.args.lines.now c.put_root.new.lines (plan_lines c.args.plan.now)
    c.in_ok-inner.ensures.inner c.in_ok-inner.ensures.line
    (plan_lines c.get-in-Half.result.now) (plan_lines c.get-in-Half-2.result.now) c.put_plan-in-Half.new.lines c.put_plan-in-Half-2.new.lines
    made c.in_ok-put_plan-in-Half.ensures c.put_plan-in-Half-2.result c.put_plan-in-Half-2.ensures

pub returns-in-OppositeHalf : goal.returns-in-OppositeHalf
returns-in-OppositeHalf t c =
    let is = c.in-OppositeHalf.is in
    let node = lines_opposite c.in-OppositeHalf.field-0 c.in-OppositeHalf.left c.in-OppositeHalf.right in
    let first = c.get-in-OppositeHalf.ensures in
    let second = c.get-in-OppositeHalf-2.ensures in
    let made : plan_lines c.args.plan.now ≡ root_line c.args.plan.now ∷ indented (plan_lines c.get-in-OppositeHalf.result.now ++ plan_lines c.get-in-OppositeHalf-2.result.now) = cc in
    adds_children c.args.margin.now c.in_ok-inner.inner (root_line c.args.plan.now) c.args.lines.now c.put_root.new.lines (plan_lines c.args.plan.now)
    c.in_ok-inner.ensures.inner c.in_ok-inner.ensures.line
    (plan_lines c.get-in-OppositeHalf.result.now) (plan_lines c.get-in-OppositeHalf-2.result.now) c.put_plan-in-OppositeHalf.new.lines c.put_plan-in-OppositeHalf-2.new.lines
    made c.in_ok-put_plan-in-OppositeHalf.ensures c.put_plan-in-OppositeHalf-2.result c.put_plan-in-OppositeHalf-2.ensures

pub returns-in-Set : goal.returns-in-Set
returns-in-Set t c =
    let is = c.in-Set.is in
    let node = lines_set c.in-Set.field-0 c.in-Set.left c.in-Set.right in
    let first = c.get-in-Set.ensures in
    let second = c.get-in-Set-2.ensures in
    let made : plan_lines c.args.plan.now ≡ root_line c.args.plan.now ∷ indented (plan_lines c.get-in-Set.result.now ++ plan_lines c.get-in-Set-2.result.now) = cc in
    adds_children c.args.margin.now c.in_ok-inner.inner (root_line c.args.plan.now) c.args.lines.now c.put_root.new.lines (plan_lines c.args.plan.now)
    c.in_ok-inner.ensures.inner c.in_ok-inner.ensures.line
    (plan_lines c.get-in-Set.result.now) (plan_lines c.get-in-Set-2.result.now) c.put_plan-in-Set.new.lines c.put_plan-in-Set-2.new.lines
    made c.in_ok-put_plan-in-Set.ensures c.put_plan-in-Set-2.result c.put_plan-in-Set-2.ensures

pub returns-in-HashJoin : goal.returns-in-HashJoin
returns-in-HashJoin t c =
    let is = c.in-HashJoin.is in
    let node = lines_hash c.in-HashJoin.on c.in-HashJoin.left c.in-HashJoin.right c.in-HashJoin.left_places c.in-HashJoin.right_places in
    let first = c.get-in-HashJoin.ensures in
    let second = c.get-in-HashJoin-2.ensures in
    let made : plan_lines c.args.plan.now ≡ root_line c.args.plan.now ∷ indented (plan_lines c.get-in-HashJoin.result.now ++ plan_lines c.get-in-HashJoin-2.result.now) = cc in
    adds_children c.args.margin.now c.in_ok-inner.inner (root_line c.args.plan.now) c.args.lines.now c.put_root.new.lines (plan_lines c.args.plan.now)
    c.in_ok-inner.ensures.inner c.in_ok-inner.ensures.line
    (plan_lines c.get-in-HashJoin.result.now) (plan_lines c.get-in-HashJoin-2.result.now) c.put_plan-in-HashJoin.new.lines c.put_plan-in-HashJoin-2.new.lines
    made c.in_ok-put_plan-in-HashJoin.ensures c.put_plan-in-HashJoin-2.result c.put_plan-in-HashJoin-2.ensures

pub returns : goal.returns
returns t c =
    let is = c.in-Member.is in
    let node = lines_member c.in-Member.operand c.in-Member.negated c.in-Member.members c.in-Member.rows in
    let first = c.get-in-Member.ensures in
    let second = c.get-in-Member-2.ensures in
    let made : plan_lines c.args.plan.now ≡ root_line c.args.plan.now ∷ indented (plan_lines c.get-in-Member.result.now ++ plan_lines c.get-in-Member-2.result.now) = cc in
    adds_children c.args.margin.now c.in_ok-inner.inner (root_line c.args.plan.now) c.args.lines.now c.put_root.new.lines (plan_lines c.args.plan.now)
    c.in_ok-inner.ensures.inner c.in_ok-inner.ensures.line
    (plan_lines c.get-in-Member.result.now) (plan_lines c.get-in-Member-2.result.now) c.put_plan-in-Member.new.lines c.put_plan-in-Member-2.new.lines
    made c.in_ok-put_plan-in-Member.ensures c.put_plan-in-Member-2.result c.put_plan-in-Member-2.ensures
