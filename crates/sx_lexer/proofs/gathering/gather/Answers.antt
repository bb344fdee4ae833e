use Rattle.std.proofs.Common.{◌++◌, ◌∷◌, [], ap, subst, arith, length, false, refl}
use Rattle.sx_lexer.specs.declared.next.Found.TheVariants as found
use Rattle.sx_lexer.specs.Lexis.{lexed, piece, quoted, faults_here, faults_space, faults_token}
use Rattle.sx_lexer.specs.Found.{IsFound}
use Rattle.sx_lexer.proofs.Turns.{at_end, past_space, past_token, space_within, token_within, fault_within}
use Rattle.std.proofs.lemmas.Str.{length-le-encodes}
use Rattle.sx_lexer.proofs.gathering.gather.Goals as goal

pub loop-gathered-preserved-in-Space : goal.loop-gathered-preserved-in-Space
loop-gathered-preserved-in-Space c =
    let i = c.loop-gathered.invariant in
    let s = c.loop-gathered.place.rest.now in
    let r = c.in-Space.behind.rest.now in
    let f : IsFound s (found.Space c.in-Space.behind c.in-Space.line) = subst (IsFound s) c.in-Space.is c.in_ok-next.ensures in
    let w = space_within s r c.in-Space.line c.loop-gathered.place.bytes.now c.in-Space.behind.bytes.now c.loop-gathered.place.same c.in-Space.behind.same f.0 in
    record {
      done = i.done;
      lexes = past_space c.args.start.rest.now c.loop-gathered.before.line c.loop-gathered.before.space s i.done i.lexes r c.in-Space.line f.0;
      faults = λ k p x. i.faults k p (faults_space r c.in-Space.line f.0 x);
      holds = i.holds;
      within = omega (arith, w, i.within);
      list = omega (arith, i.list, f.1);
      names = i.names;
      texts = i.texts;
    }

pub loop-gathered-preserved-in-Token : goal.loop-gathered-preserved-in-Token
loop-gathered-preserved-in-Token c =
    let i = c.loop-gathered.invariant in
    let s = c.loop-gathered.place.rest.now in
    let r = c.in-Token.behind.rest.now in
    let f : IsFound s (found.Token c.in-Token.piece c.in-Token.behind) = subst (IsFound s) c.in-Token.is c.in_ok-next.ensures in
    let w = token_within s r (piece c.in-Token.piece) c.loop-gathered.place.bytes.now c.in-Token.behind.bytes.now c.loop-gathered.place.same c.in-Token.behind.same f.0 in
    let a = c.in_ok-add_piece-in-Token.ensures.adds in
    record {
      done = i.done ++ lexed (piece c.in-Token.piece) s r c.loop-gathered.before.line c.loop-gathered.before.space ∷ [];
      lexes = past_token c.args.start.rest.now c.loop-gathered.before.line c.loop-gathered.before.space s i.done i.lexes r (piece c.in-Token.piece) c.is_space_behind.result c.is_space_behind.ensures f.0;
      faults = λ k p x. i.faults k p (faults_token r (piece c.in-Token.piece) f.0 x);
      holds = a.holds i.done i.holds;
      within = omega (arith, w, i.within);
      list = omega (arith, i.list, f.1, a.list);
      names = omega (arith, i.names, a.names, a.list);
      texts = omega (arith, i.texts, a.texts, a.list);
    }

pub loop-gathered-preserved : goal.loop-gathered-preserved
loop-gathered-preserved c =
    let i = c.loop-gathered.invariant in
    let s = c.loop-gathered.place.rest.now in
    let r = c.in-Text.behind.rest.now in
    let f : IsFound s (found.Text c.in-Text.value c.in-Text.behind) = subst (IsFound s) c.in-Text.is c.in_ok-next.ensures in
    let w = token_within s r (quoted c.in-Text.value.items) c.loop-gathered.place.bytes.now c.in-Text.behind.bytes.now c.loop-gathered.place.same c.in-Text.behind.same f.0 in
    let a = c.in_ok-add_text-in-Text.ensures.adds in
    record {
      done = i.done ++ lexed (quoted c.in-Text.value.items) s r c.loop-gathered.before.line c.loop-gathered.before.space ∷ [];
      lexes = past_token c.args.start.rest.now c.loop-gathered.before.line c.loop-gathered.before.space s i.done i.lexes r (quoted c.in-Text.value.items) false refl f.0;
      faults = λ k p x. i.faults k p (faults_token r (quoted c.in-Text.value.items) f.0 x);
      holds = a.holds i.done i.holds;
      within = omega (arith, w, i.within);
      list = omega (arith, i.list, f.1, a.list);
      names = omega (arith, i.names, a.names, a.list);
      texts = omega (arith, i.texts, a.texts, a.list);
    }

pub add_piece-requires-clause-order : goal.add_piece-requires-clause-order
add_piece-requires-clause-order c =
    let i = c.loop-gathered.invariant in
    let s = c.loop-gathered.place.rest.now in
    let f : IsFound s (found.Token c.in-Token.piece c.in-Token.behind) = subst (IsFound s) c.in-Token.is c.in_ok-next.ensures in
    token_within s c.in-Token.behind.rest.now (piece c.in-Token.piece) c.loop-gathered.place.bytes.now c.in-Token.behind.bytes.now c.loop-gathered.place.same c.in-Token.behind.same f.0

pub add_text-requires-clause-order : goal.add_text-requires-clause-order
add_text-requires-clause-order c =
    let i = c.loop-gathered.invariant in
    let s = c.loop-gathered.place.rest.now in
    let f : IsFound s (found.Text c.in-Text.value c.in-Text.behind) = subst (IsFound s) c.in-Text.is c.in_ok-next.ensures in
    token_within s c.in-Text.behind.rest.now (quoted c.in-Text.value.items) c.loop-gathered.place.bytes.now c.in-Text.behind.bytes.now c.loop-gathered.place.same c.in-Text.behind.same f.0

pub place_in-requires : goal.place_in-requires
place_in-requires c =
    let i = c.loop-gathered.invariant in
    let s = c.loop-gathered.place.rest.now in
    let f : IsFound s (found.Fault c.in-Fault.kind c.in-Fault.at) = subst (IsFound s) c.in-Fault.is c.in_ok-next.ensures in
    let w = fault_within s c.in-Fault.at.rest.now c.in-Fault.kind c.loop-gathered.place.bytes.now c.in-Fault.at.bytes.now c.loop-gathered.place.same c.in-Fault.at.same f.0 in
    omega (arith, w, i.within)

pub returns-in-Fault-clause-stop : goal.returns-in-Fault-clause-stop
returns-in-Fault-clause-stop c =
    let i = c.loop-gathered.invariant in
    let s = c.loop-gathered.place.rest.now in
    let f : IsFound s (found.Fault c.in-Fault.kind c.in-Fault.at) = subst (IsFound s) c.in-Fault.is c.in_ok-next.ensures in
    (c.in-Fault.at.rest.now, i.faults c.in-Fault.kind c.in-Fault.at.rest.now (faults_here f.0), c.place_in.ensures)

pub returns-in-Nothing-clause-ok : goal.returns-in-Nothing-clause-ok
returns-in-Nothing-clause-ok c =
    let i = c.loop-gathered.invariant in
    let s = c.loop-gathered.place.rest.now in
    let f : IsFound s found.Nothing = subst (IsFound s) c.in-Nothing.is c.in_ok-next.ensures in
    record { lexed = i.done; lexes = at_end c.args.start.rest.now c.loop-gathered.before.line c.loop-gathered.before.space s i.done i.lexes f; holds = i.holds }

pub add_piece-requires-clause-few : goal.add_piece-requires-clause-few
add_piece-requires-clause-few c =
    let i = c.loop-gathered.invariant in
    let h = length-le-encodes c.args.start.rest.now in
    let e = ap length c.args.start.same in
    omega (arith, i.names, i.list, h, e, c.requires.within, c.requires.small)

pub add_text-requires-clause-few : goal.add_text-requires-clause-few
add_text-requires-clause-few c =
    let i = c.loop-gathered.invariant in
    let h = length-le-encodes c.args.start.rest.now in
    let e = ap length c.args.start.same in
    omega (arith, i.texts, i.list, h, e, c.requires.within, c.requires.small)
