-- `search` meets its contract. The loop's invariant is `Stands`.
use native.Mathlib.Omega.{arith}
use Rattle.matching.proofs.Reaching.{reaching_kept}
use Rattle.search.proofs.Fitting.{cap_is}
use Rattle.search.proofs.Standing.{stands_room, stands_queue, queue_cut, waiting_long, ready_whole, ready_found, ready_room, ready_short}
use Rattle.search.proofs.search.search.Goals as goal

pub admit-s-requires : goal.admit-s-requires
admit-s-requires c = stands_room c.args.reached.now.matched.history.held c.loop-s.invariant

pub returns-then-s-eq0 : goal.returns-then-s-eq0
returns-then-s-eq0 c =
    let ready = c.admit-s.ensures.ready _ _ _ _ c.loop-s.invariant in
    (omega (arith, ready.stands.placed_within, c.args.reached.now.matched.history.held.few), ready.stands.list_sized, ready_whole c.args.reached.now.matched.history.held ready c.if-s-eq0.true, ready_found c.args.reached.now.matched.history.held ready c.if-s-eq0.true)

pub cap_of-cap-requires : goal.cap_of-cap-requires
cap_of-cap-requires c =
    let held = c.args.reached.now.matched.history.held in
    let room = stands_room held (c.admit-s.ensures.ready _ _ _ _ c.loop-s.invariant).stands in
    (omega (arith, room.next_within, held.few), λ o at. omega (arith, room.known o at, held.few))

pub first_fit-requires : goal.first_fit-requires
first_fit-requires c =
    let held = c.args.reached.now.matched.history.held in
    let ready = c.admit-s.ensures.ready _ _ _ _ c.loop-s.invariant in
    (rw (queue_cut held ready.stands) (stands_queue held ready.stands).known, (stands_room held ready.stands).known)

pub returns-in_err-i : goal.returns-in_err-i
returns-in_err-i c =
    let ready = c.admit-s.ensures.ready _ _ _ _ c.loop-s.invariant in
    let held = c.args.reached.now.matched.history.held in
    let cap = cap_is held c.requires.1 c.requires.2 ready.stands c.cap_of-cap.ensures in
    let none = rw (queue_cut held ready.stands) at c.in_err-i.ensures in
    rw c.from_residual.ensures (ready.stands.list_sized, ready_short held ready (reaching_kept c.args.reached.now.reaching) c.requires.1 cap (omega (arith, c.if-s-eq0.false)) none.none_lower)

pub place-s-requires : goal.place-s-requires
place-s-requires c =
    let held = c.args.reached.now.matched.history.held in
    let ready = c.admit-s.ensures.ready _ _ _ _ c.loop-s.invariant in
    let placed = ready_room held ready (omega (arith, c.if-s-eq0.false)) in
    (stands_room held ready.stands, omega (arith, c.in_ok-i.ensures.0, waiting_long held ready.stands), ready.stands.head_within, ready.stands.tail_within, omega (arith, placed, held.few))

pub loop-s-smaller : goal.loop-s-smaller
loop-s-smaller c =
    let ready = c.admit-s.ensures.ready _ _ _ _ c.loop-s.invariant in
    omega (arith, c.place-s.ensures.placed_is, c.admit-s.ensures.placed_is, ready_room c.args.reached.now.matched.history.held ready (omega (arith, c.if-s-eq0.false)))

pub loop-s-preserved : goal.loop-s-preserved
loop-s-preserved c =
    let ready = c.admit-s.ensures.ready _ _ _ _ c.loop-s.invariant in
    let held = c.args.reached.now.matched.history.held in
    let cap = cap_is held c.requires.1 c.requires.2 ready.stands c.cap_of-cap.ensures in
    let first = rw (queue_cut held ready.stands) at c.in_ok-i.ensures.1 in
    c.place-s.ensures.stands _ _ _ (reaching_kept c.args.reached.now.reaching) c.requires.1 c.requires.0 cap ready first
