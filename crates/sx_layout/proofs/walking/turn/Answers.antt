use Rattle.std.proofs.Common.{rules, ◌≡◌, ◌<◌, length, None, arith}
use Rattle.sx_layout.proofs.Walks.{last_within, part_within, measured_walk, stay_measured, measured_less, opened_walk, stay_open, opened_less, unseen_at, open_at, circle_found}
use Rattle.sx_layout.proofs.walking.turn.Goals as goal

pub bounds-progress-sum : goal.bounds-progress-sum
bounds-progress-sum c = last_within _ _ _ _ c.requires

pub offset_bounds-progress-sum : goal.offset_bounds-progress-sum
offset_bounds-progress-sum c = let h : c.args.sum.structure < length c.args.progress.now = last_within _ _ _ _ c.requires in search rules

pub bounds : goal.bounds
bounds c = part_within _ _ c.in-Structure.ensures.3

pub offset_bounds-progress-number : goal.offset_bounds-progress-number
offset_bounds-progress-number c = let h : c.in-Structure.number < length c.args.progress.now = part_within _ _ c.in-Structure.ensures.3 in search rules

pub bounds-progress-number : goal.bounds-progress-number
bounds-progress-number c = part_within _ _ c.in-Structure.ensures.3

pub offset_bounds-progress-number-in-Unseen : goal.offset_bounds-progress-number-in-Unseen
offset_bounds-progress-number-in-Unseen c = let h : c.in-Structure.number < length c.args.progress.now = part_within _ _ c.in-Structure.ensures.3 in search rules

pub bounds-progress-sum-in_default : goal.bounds-progress-sum-in_default
bounds-progress-sum-in_default c = let h = last_within _ _ _ _ c.requires in let e = c.in-Structure.ensures.0 in rw e h

pub offset_bounds-progress-sum-in_default : goal.offset_bounds-progress-sum-in_default
offset_bounds-progress-sum-in_default c =
    let h : c.args.sum.structure < length c.args.progress.now = last_within _ _ _ _ c.requires in
    let e : c.in-Structure.sum.structure ≡ c.args.sum.structure = c.in-Structure.ensures.0 in
    let k : c.in-Structure.sum.structure < length c.args.progress.now = omega arith in
    search rules

pub returns-in-Words-clause-walk : goal.returns-in-Words-clause-walk
returns-in-Words-clause-walk c = measured_walk _ _ c.args.stack.now.items c.args.sum c.in-Words.words c.requires c.in-Words.ensures

pub returns-in-Words-clause-seen : goal.returns-in-Words-clause-seen
returns-in-Words-clause-seen c = stay_measured c.args.progress.now c.args.sum.structure c.in-Words.words

pub returns-in-Words-clause-less : goal.returns-in-Words-clause-less
returns-in-Words-clause-less c = measured_less c.args.progress.now c.args.stack.now.items c.args.sum c.in-Words.words (last_within _ _ _ _ c.requires)

pub returns-in_ok-push-in-Unseen-2-clause-walk : goal.returns-in_ok-push-in-Unseen-2-clause-walk
returns-in_ok-push-in-Unseen-2-clause-walk c =
    let found = c.in-Structure.ensures in
    rw (c.in_ok-push-in-Unseen-2.ensures.items, c.in_ok-push-in-Unseen.ensures.items)
    (opened_walk c.args.structures.now c.args.progress.now c.args.stack.now.items c.args.sum c.in-Structure.sum c.in-Structure.number c.requires found.0 found.1
    (let h = part_within c.args.progress.now c.in-Structure.number found.3 in let many = c.requires.many in omega arith) found.2)

pub returns-in_ok-push-in-Unseen-2-clause-seen : goal.returns-in_ok-push-in-Unseen-2-clause-seen
returns-in_ok-push-in-Unseen-2-clause-seen c = stay_open c.args.progress.now c.in-Structure.number

pub returns-in_ok-push-in-Unseen-2-clause-less : goal.returns-in_ok-push-in-Unseen-2-clause-less
returns-in_ok-push-in-Unseen-2-clause-less c =
    rw (c.in_ok-push-in-Unseen-2.ensures.items, c.in_ok-push-in-Unseen.ensures.items)
    (opened_less c.args.progress.now c.args.stack.now.items c.args.sum c.in-Structure.sum _ c.in-Structure.number
    (unseen_at c.args.progress.now c.in-Structure.number _ c.in-Structure.ensures.3 c.in-Unseen.is))

pub returns-in_default : goal.returns-in_default
returns-in_default c =
    let found = c.in-Structure.ensures in
    let circle = circle_found c.args.structures.now c.args.progress.now c.args.stack.now.items c.args.sum c.in-Structure.number c.requires
    (open_at c.args.progress.now c.in-Structure.number _ found.3 c.in_default.not-Unseen) found.2 in
    rw found.0 (record {
      walk = measured_walk c.args.structures.now c.args.progress.now c.args.stack.now.items c.args.sum None c.requires circle;
      seen = stay_measured c.args.progress.now c.args.sum.structure None;
      less = measured_less c.args.progress.now c.args.stack.now.items c.args.sum None (last_within _ _ _ _ c.requires);
    })
