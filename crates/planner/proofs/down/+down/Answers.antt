use Rattle.std.proofs.Common.{◌≡◌, ◌∙◌, sym, subst}
use Rattle.algebra.specs.declared.tree.Tree.{Tree}
use Rattle.algebra.specs.declared.tree.Tree.TheVariants as t
use Rattle.planner.specs.Led.{IsCalm, Led}
use Rattle.planner.specs.Looks.{Over}
use Rattle.planner.specs.declared.outline.Outline.{Outline}
use Rattle.planner.proofs.Children.{distinct-part, filter-part, group-part, inner-left, inner-right, left_join-left, left_join-right, product-left, product-right, project-part, set-left, set-right, sort-part}
use Rattle.planner.proofs.Parts.{ok-weaker}
use Rattle.planner.proofs.Walked.{part-calm}
use Rattle.planner.proofs.Walks.{scan-distinct, scan-filter, scan-group, scan-inner, scan-left, scan-product, scan-project, scan-set, scan-sort}
use Rattle.std.proofs.Common.{ap}
use Rattle.algebra.specs.declared.tree.Tree.{Tree-F, out-Tree}
use Rattle.planner.specs.Joins.{Beside, Has, one}
use Rattle.planner.proofs.Opened.{out-inner, out-left, out-set}
use Rattle.planner.proofs.Shapes.{behind-has, below-distinct, below-filter, below-group, below-product, below-project, below-sort, no-node, node-has, part-has}
use Rattle.planner.proofs.down.+down.Goals as goal

pub moved_down-returns-then-depth-eq0-clause-led : goal.moved_down-returns-then-depth-eq0-clause-led
moved_down-returns-then-depth-eq0-clause-led n c = λ h. c.begun.ensures.led c.args.calm h

pub moved_down-returns-then-depth-eq0-clause-still : goal.moved_down-returns-then-depth-eq0-clause-still
moved_down-returns-then-depth-eq0-clause-still n c = λ table over. c.begun.ensures.tree

pub moved_down-returns-then-depth-eq0-clause-has : goal.moved_down-returns-then-depth-eq0-clause-has
moved_down-returns-then-depth-eq0-clause-has n c = λ shape h. subst (Has shape) (sym c.begun.ensures.tree) h

pub moved_down-returns-in-Set-clause-led : goal.moved_down-returns-in-Set-clause-led
moved_down-returns-in-Set-clause-led n c = λ h.
    let calm : IsCalm c.args.calm (t.Set c.in-Set.operation c.in-Set.left c.in-Set.right) = rw c.in-Set.is at h in
    rw c.in-Set.is (c.set_of.ensures c.args.calm c.in-Set.left c.in-Set.right calm (c.side_by_side.ensures.led c.args.calm c.in-Set.left c.in-Set.right
    (c.part_down-left.ensures.led (part-calm c.args.calm (λ (left : Tree). t.Set c.in-Set.operation left c.in-Set.right) 0 (set-left c.in-Set.operation c.in-Set.right) c.in-Set.left calm))
    (c.part_down.ensures.led (part-calm c.args.calm (λ (right : Tree). t.Set c.in-Set.operation c.in-Set.left right) 1 (set-right c.in-Set.operation c.in-Set.left) c.in-Set.right calm))))

pub moved_down-returns-in-Set-clause-still : goal.moved_down-returns-in-Set-clause-still
moved_down-returns-in-Set-clause-still n c = λ table over. absurd (scan-set table c.args.tree c.in-Set.operation c.in-Set.left c.in-Set.right c.in-Set.is over)

pub moved_down-returns-in-Set-clause-has : goal.moved_down-returns-in-Set-clause-has
moved_down-returns-in-Set-clause-has n c = λ shape h. absurd (no-node c.args.tree (Tree-F.Set c.in-Set.operation c.in-Set.left c.in-Set.right)
    (ap out-Tree c.in-Set.is ∙ out-set c.in-Set.operation c.in-Set.left c.in-Set.right) shape
    (λ table z. z) (λ l r e. cc (e)) (λ condition below e. cc (e)) (λ base rest. rest) h)

pub moved_down-returns-in_default-clause-led : goal.moved_down-returns-in_default-clause-led
moved_down-returns-in_default-clause-led n c = c.node_down.ensures.led

pub moved_down-returns-in_default-clause-still : goal.moved_down-returns-in_default-clause-still
moved_down-returns-in_default-clause-still n c = c.node_down.ensures.still

pub moved_down-returns-in_default-clause-has : goal.moved_down-returns-in_default-clause-has
moved_down-returns-in_default-clause-has n c = c.node_down.ensures.has

pub node_down-returns-clause-led : goal.node_down-returns-clause-led
node_down-returns-clause-led n c = λ h. c.below.ensures.led c.args.tree (c.sunk_here-outline.ensures.led c.args.tree (c.begun.ensures.led c.args.calm h))

pub node_down-returns-clause-still : goal.node_down-returns-clause-still
node_down-returns-clause-still n c = λ table over. c.below.ensures.still table c.args.tree over
    (ok-weaker c.sunk_here-outline.result (λ (o : Outline) (e : o.tree ≡ c.begun.result.tree). e ∙ c.begun.ensures.tree)
    (c.sunk_here-outline.ensures.still table (subst (Over (t.Scan table)) (sym c.begun.ensures.tree) over)))

pub node_down-returns-clause-has : goal.node_down-returns-clause-has
node_down-returns-clause-has n c = λ shape h. c.below.ensures.has shape
    (c.sunk_here-outline.ensures.has shape (subst (Has shape) (sym c.begun.ensures.tree) h))

pub below-returns-clause-led : goal.below-returns-clause-led
below-returns-clause-led n c = λ old h.
    let outline = c.in_ok-steps.field-0 in
    let led : Led c.args.calm old outline = rw c.in_ok-steps.was at h in
    c.behind.ensures.led c.args.calm old outline.tree led.steps (c.parts_down.ensures.led led.quiet)

pub below-returns-clause-still : goal.below-returns-clause-still
below-returns-clause-still n c = λ table x over h.
    let tree = c.in_ok-steps.field-0.tree in
    let came : tree ≡ x = rw c.in_ok-steps.was at h in
    c.behind.ensures.tree x (ok-weaker c.parts_down.result (λ (o : Outline) (e : o.tree ≡ tree). e ∙ came)
    (c.parts_down.ensures.still table (subst (Over (t.Scan table)) (sym came) over)))

pub parts_down-returns-in-Filter-clause-led : goal.parts_down-returns-in-Filter-clause-led
parts_down-returns-in-Filter-clause-led n c = λ h.
    let calm : IsCalm c.args.calm ((t.Filter c.in-Filter.condition) c.in-Filter.rows) = rw c.in-Filter.is at h in
    rw c.in-Filter.is (c.filter_of.ensures.led c.args.calm c.in-Filter.rows calm
    (c.part_down.ensures.led (part-calm c.args.calm (t.Filter c.in-Filter.condition) 0 (filter-part c.in-Filter.condition) c.in-Filter.rows calm)))

pub parts_down-returns-in-Filter-clause-still : goal.parts_down-returns-in-Filter-clause-still
parts_down-returns-in-Filter-clause-still n c = λ table over.
    let below : Over (t.Scan table) c.in-Filter.rows = scan-filter table c.args.tree c.in-Filter.condition c.in-Filter.rows c.in-Filter.is over in
    rw c.in-Filter.is (c.filter_of.ensures.tree c.in-Filter.rows (c.part_down.ensures.still table below))

pub parts_down-returns-in-Product-clause-led : goal.parts_down-returns-in-Product-clause-led
parts_down-returns-in-Product-clause-led n c = λ h.
    let calm : IsCalm c.args.calm (t.Product c.in-Product.left c.in-Product.right) = rw c.in-Product.is at h in
    rw c.in-Product.is (c.product_of.ensures.led c.args.calm c.in-Product.left c.in-Product.right calm (c.side_by_side.ensures.led c.args.calm c.in-Product.left c.in-Product.right
    (c.part_down-left.ensures.led (part-calm c.args.calm (λ (left : Tree). t.Product left c.in-Product.right) 0 (product-left c.in-Product.right) c.in-Product.left calm))
    (c.part_down-in-Product.ensures.led (part-calm c.args.calm (λ (right : Tree). t.Product c.in-Product.left right) 1 (product-right c.in-Product.left) c.in-Product.right calm))))

pub parts_down-returns-in-Product-clause-still : goal.parts_down-returns-in-Product-clause-still
parts_down-returns-in-Product-clause-still n c = λ table over. absurd (scan-product table c.args.tree c.in-Product.left c.in-Product.right c.in-Product.is over)

pub parts_down-returns-in-Inner-clause-led : goal.parts_down-returns-in-Inner-clause-led
parts_down-returns-in-Inner-clause-led n c = λ h.
    let calm : IsCalm c.args.calm (t.Inner c.in-Inner.on c.in-Inner.left c.in-Inner.right) = rw c.in-Inner.is at h in
    rw c.in-Inner.is (c.inner_of.ensures c.args.calm c.in-Inner.left c.in-Inner.right calm (c.side_by_side-in-Inner.ensures.led c.args.calm c.in-Inner.left c.in-Inner.right
    (c.part_down-left-in-Inner.ensures.led (part-calm c.args.calm (λ (left : Tree). t.Inner c.in-Inner.on left c.in-Inner.right) 0 (inner-left c.in-Inner.on c.in-Inner.right) c.in-Inner.left calm))
    (c.part_down-in-Inner.ensures.led (part-calm c.args.calm (λ (right : Tree). t.Inner c.in-Inner.on c.in-Inner.left right) 1 (inner-right c.in-Inner.on c.in-Inner.left) c.in-Inner.right calm))))

pub parts_down-returns-in-Inner-clause-still : goal.parts_down-returns-in-Inner-clause-still
parts_down-returns-in-Inner-clause-still n c = λ table over. absurd (scan-inner table c.args.tree c.in-Inner.on c.in-Inner.left c.in-Inner.right c.in-Inner.is over)

pub parts_down-returns-in-Left-clause-led : goal.parts_down-returns-in-Left-clause-led
parts_down-returns-in-Left-clause-led n c = λ h.
    let calm : IsCalm c.args.calm (t.Left c.in-Left.on c.in-Left.left c.in-Left.right c.in-Left.width) = rw c.in-Left.is at h in
    rw c.in-Left.is (c.left_join_of.ensures c.args.calm c.in-Left.left c.in-Left.right calm (c.side_by_side-in-Left.ensures.led c.args.calm c.in-Left.left c.in-Left.right
    (c.part_down-left-in-Left.ensures.led (part-calm c.args.calm (λ (left : Tree). t.Left c.in-Left.on left c.in-Left.right c.in-Left.width) 0 (left_join-left c.in-Left.on c.in-Left.width c.in-Left.right) c.in-Left.left calm))
    (c.part_down-in-Left.ensures.led (part-calm c.args.calm (λ (right : Tree). t.Left c.in-Left.on c.in-Left.left right c.in-Left.width) 1 (left_join-right c.in-Left.on c.in-Left.width c.in-Left.left) c.in-Left.right calm))))

pub parts_down-returns-in-Left-clause-still : goal.parts_down-returns-in-Left-clause-still
parts_down-returns-in-Left-clause-still n c = λ table over. absurd (scan-left table c.args.tree c.in-Left.on c.in-Left.left c.in-Left.right c.in-Left.width c.in-Left.is over)

pub parts_down-returns-in-Group-clause-led : goal.parts_down-returns-in-Group-clause-led
parts_down-returns-in-Group-clause-led n c = λ h.
    let calm : IsCalm c.args.calm ((t.Group c.in-Group.columns c.in-Group.functions) c.in-Group.rows) = rw c.in-Group.is at h in
    rw c.in-Group.is (c.group_of.ensures.led c.args.calm c.in-Group.rows calm
    (c.part_down-in-Group.ensures.led (part-calm c.args.calm (t.Group c.in-Group.columns c.in-Group.functions) 0 (group-part c.in-Group.columns c.in-Group.functions) c.in-Group.rows calm)))

pub parts_down-returns-in-Group-clause-still : goal.parts_down-returns-in-Group-clause-still
parts_down-returns-in-Group-clause-still n c = λ table over.
    let below : Over (t.Scan table) c.in-Group.rows = scan-group table c.args.tree c.in-Group.columns c.in-Group.functions c.in-Group.rows c.in-Group.is over in
    rw c.in-Group.is (c.group_of.ensures.tree c.in-Group.rows (c.part_down-in-Group.ensures.still table below))

pub parts_down-returns-in-Project-clause-led : goal.parts_down-returns-in-Project-clause-led
parts_down-returns-in-Project-clause-led n c = λ h.
    let calm : IsCalm c.args.calm ((t.Project c.in-Project.items) c.in-Project.rows) = rw c.in-Project.is at h in
    rw c.in-Project.is (c.project_of.ensures.led c.args.calm c.in-Project.rows calm
    (c.part_down-in-Project.ensures.led (part-calm c.args.calm (t.Project c.in-Project.items) 0 (project-part c.in-Project.items) c.in-Project.rows calm)))

pub parts_down-returns-in-Project-clause-still : goal.parts_down-returns-in-Project-clause-still
parts_down-returns-in-Project-clause-still n c = λ table over.
    let below : Over (t.Scan table) c.in-Project.rows = scan-project table c.args.tree c.in-Project.items c.in-Project.rows c.in-Project.is over in
    rw c.in-Project.is (c.project_of.ensures.tree c.in-Project.rows (c.part_down-in-Project.ensures.still table below))

pub parts_down-returns-in-Distinct-clause-led : goal.parts_down-returns-in-Distinct-clause-led
parts_down-returns-in-Distinct-clause-led n c = λ h.
    let calm : IsCalm c.args.calm ((t.Distinct) c.in-Distinct.rows) = rw c.in-Distinct.is at h in
    rw c.in-Distinct.is (c.distinct_of.ensures.led c.args.calm c.in-Distinct.rows calm
    (c.part_down-in-Distinct.ensures.led (part-calm c.args.calm (t.Distinct) 0 (distinct-part) c.in-Distinct.rows calm)))

pub parts_down-returns-in-Distinct-clause-still : goal.parts_down-returns-in-Distinct-clause-still
parts_down-returns-in-Distinct-clause-still n c = λ table over.
    let below : Over (t.Scan table) c.in-Distinct.rows = scan-distinct table c.args.tree c.in-Distinct.rows c.in-Distinct.is over in
    rw c.in-Distinct.is (c.distinct_of.ensures.tree c.in-Distinct.rows (c.part_down-in-Distinct.ensures.still table below))

pub parts_down-returns-in-Sort-clause-led : goal.parts_down-returns-in-Sort-clause-led
parts_down-returns-in-Sort-clause-led n c = λ h.
    let calm : IsCalm c.args.calm ((t.Sort c.in-Sort.keys) c.in-Sort.rows) = rw c.in-Sort.is at h in
    rw c.in-Sort.is (c.sort_of.ensures.led c.args.calm c.in-Sort.rows calm
    (c.part_down-in-Sort.ensures.led (part-calm c.args.calm (t.Sort c.in-Sort.keys) 0 (sort-part c.in-Sort.keys) c.in-Sort.rows calm)))

pub parts_down-returns-in-Sort-clause-still : goal.parts_down-returns-in-Sort-clause-still
parts_down-returns-in-Sort-clause-still n c = λ table over.
    let below : Over (t.Scan table) c.in-Sort.rows = scan-sort table c.args.tree c.in-Sort.keys c.in-Sort.rows c.in-Sort.is over in
    rw c.in-Sort.is (c.sort_of.ensures.tree c.in-Sort.rows (c.part_down-in-Sort.ensures.still table below))

pub part_down-returns-clause-led : goal.part_down-returns-clause-led
part_down-returns-clause-led n c = λ h.
    rw (← c.into_inner.ensures) (c.part_at.ensures.led c.args.calm _ (c.moved_down.ensures.led (rw (← c.into_inner.ensures) at h)))

pub part_down-returns-clause-still : goal.part_down-returns-clause-still
part_down-returns-clause-still n c = λ table over. c.part_at.ensures.tree c.args.tree
    (ok-weaker c.moved_down.result (λ (o : Outline) (e : o.tree ≡ c.into_inner.result). e ∙ c.into_inner.ensures)
    (c.moved_down.ensures.still table (subst (Over (t.Scan table)) (sym c.into_inner.ensures) over)))

pub below-returns-clause-has : goal.below-returns-clause-has
below-returns-clause-has n c = λ shape h.
    let tree = c.in_ok-steps.field-0.tree in
    let came : Has shape tree = rw c.in_ok-steps.was at h in
    behind-has c.parts_down.result c.behind.result shape tree came c.behind.ensures.tree (c.parts_down.ensures.has shape came)

pub part_down-returns-clause-has : goal.part_down-returns-clause-has
part_down-returns-clause-has n c = λ shape h. part-has c.moved_down.result c.part_at.result shape c.args.tree h
    c.part_at.ensures.tree (c.moved_down.ensures.has shape (subst (Has shape) (sym c.into_inner.ensures) h))

pub parts_down-returns-in-Filter-clause-has : goal.parts_down-returns-in-Filter-clause-has
parts_down-returns-in-Filter-clause-has n c = λ shape h.
    let below = below-filter c.in-Filter.condition c.in-Filter.rows c.args.tree c.in-Filter.is shape h in
    node-has c.part_down.result c.filter_of.result shape c.in-Filter.rows (t.Filter c.in-Filter.condition) below
    c.filter_of.ensures.tree (c.part_down.ensures.has below.part below.has)

pub parts_down-returns-in-Group-clause-has : goal.parts_down-returns-in-Group-clause-has
parts_down-returns-in-Group-clause-has n c = λ shape h.
    let below = below-group shape c.args.tree c.in-Group.columns c.in-Group.functions c.in-Group.rows c.in-Group.is h in
    node-has c.part_down-in-Group.result c.group_of.result shape c.in-Group.rows (t.Group c.in-Group.columns c.in-Group.functions) below
    c.group_of.ensures.tree (c.part_down-in-Group.ensures.has below.part below.has)

pub parts_down-returns-in-Project-clause-has : goal.parts_down-returns-in-Project-clause-has
parts_down-returns-in-Project-clause-has n c = λ shape h.
    let below = below-project shape c.args.tree c.in-Project.items c.in-Project.rows c.in-Project.is h in
    node-has c.part_down-in-Project.result c.project_of.result shape c.in-Project.rows (t.Project c.in-Project.items) below
    c.project_of.ensures.tree (c.part_down-in-Project.ensures.has below.part below.has)

pub parts_down-returns-in-Distinct-clause-has : goal.parts_down-returns-in-Distinct-clause-has
parts_down-returns-in-Distinct-clause-has n c = λ shape h.
    let below = below-distinct shape c.args.tree c.in-Distinct.rows c.in-Distinct.is h in
    node-has c.part_down-in-Distinct.result c.distinct_of.result shape c.in-Distinct.rows (t.Distinct) below
    c.distinct_of.ensures.tree (c.part_down-in-Distinct.ensures.has below.part below.has)

pub parts_down-returns-in-Sort-clause-has : goal.parts_down-returns-in-Sort-clause-has
parts_down-returns-in-Sort-clause-has n c = λ shape h.
    let below = below-sort shape c.args.tree c.in-Sort.keys c.in-Sort.rows c.in-Sort.is h in
    node-has c.part_down-in-Sort.result c.sort_of.result shape c.in-Sort.rows (t.Sort c.in-Sort.keys) below
    c.sort_of.ensures.tree (c.part_down-in-Sort.ensures.has below.part below.has)

pub parts_down-returns-in-Product-clause-has : goal.parts_down-returns-in-Product-clause-has
parts_down-returns-in-Product-clause-has n c = λ shape h.
    let both = below-product shape c.args.tree c.in-Product.left c.in-Product.right c.in-Product.is h in
    ok-weaker c.product_of.result (λ (o : Outline) (k : Beside both.first both.second o.tree). both.down o.tree k)
    (c.product_of.ensures.tables both.first both.second (c.side_by_side.ensures.tables both.first both.second
    (c.part_down-left.ensures.has (one both.first) both.has) (c.part_down-in-Product.ensures.has (one both.second) both.also)))

pub parts_down-returns-in_default-clause-has : goal.parts_down-returns-in_default-clause-has
parts_down-returns-in_default-clause-has n c = λ shape h. subst (Has shape) (sym c.begun.ensures.tree) h

pub parts_down-returns-in-Inner-clause-has : goal.parts_down-returns-in-Inner-clause-has
parts_down-returns-in-Inner-clause-has n c = λ shape h. absurd (no-node c.args.tree (Tree-F.Inner c.in-Inner.on c.in-Inner.left c.in-Inner.right)
    (ap out-Tree c.in-Inner.is ∙ out-inner c.in-Inner.on c.in-Inner.left c.in-Inner.right) shape
    (λ table z. z) (λ l r e. cc (e)) (λ condition below e. cc (e)) (λ base rest. rest) h)

pub parts_down-returns-in-Left-clause-has : goal.parts_down-returns-in-Left-clause-has
parts_down-returns-in-Left-clause-has n c = λ shape h. absurd (no-node c.args.tree (Tree-F.Left c.in-Left.on c.in-Left.left c.in-Left.right c.in-Left.width)
    (ap out-Tree c.in-Left.is ∙ out-left c.in-Left.on c.in-Left.left c.in-Left.right c.in-Left.width) shape
    (λ table z. z) (λ l r e. cc (e)) (λ condition below e. cc (e)) (λ base rest. rest) h)

pub parts_down-returns-in_default-clause-led : goal.parts_down-returns-in_default-clause-led
parts_down-returns-in_default-clause-led n c = λ h. c.begun.ensures.led c.args.calm h

pub parts_down-returns-in_default-clause-still : goal.parts_down-returns-in_default-clause-still
parts_down-returns-in_default-clause-still n c = λ table over. c.begun.ensures.tree
