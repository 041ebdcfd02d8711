use Rattle.std.proofs.Common.{ℕ, List, [], ◌∷◌, ◌++◌, ap, ◌∙◌}
use Rattle.act1_device.specs.contracts.device.WireEq.TheImpl.Laws.{laws-law}
use Rattle.act1_device.specs.contracts.device.WirePartialEq.TheImpl.{eq-value}
use Rattle.act1_array.proofs.ClassLemmas.{new_key, still_once, made_classes, made_members, kept_keys, no_more}
use Rattle.act1_array.proofs.classes.Classes.number.Goals as goal

pub returns-in_ok-push-3-clause-whole : goal.returns-in_ok-push-3-clause-whole
returns-in_ok-push-3-clause-whole c =
    let none = new_key eq-value.it c.args.wire c.args.self.now.wires.keys c.in_ok-number.is_new c.in_ok-number.ensures.added c.if-is_new.true in
    record {
      once = still_once eq-value.it laws-law c.args.wire c.args.self.now.wires.keys c.insert_full.new.self.keys none c.in_ok-number.ensures.keys c.requires.once;
      one_each = no_more eq-value.it c.args.wire c.args.self.now.wires.keys c.insert_full.new.self.keys c.in_ok-number.number c.args.self.now.classes.items c.push.new.self.items none c.in_ok-number.ensures.keys c.in_ok-push.ensures.items c.requires.one_each;
      members = made_members eq-value.it c.args.wire c.args.self.now.wires.keys c.in_ok-number.number c.args.self.now.classes.items c.push.new.self.items c.push-then-is_new.new.self c.args.self.now.members.items c.push-then-is_new-2.new.self.items
          none c.in_ok-number.ensures.index c.requires.one_each c.in_ok-push.ensures.items (c.in_ok-push-2.ensures.ok ∙ ap (λ (xs : List ℕ). xs ++ c.in_ok-number.number ∷ []) c.new-own.ensures) c.in_ok-push-3.ensures.items c.requires.members;
    }

pub returns-in_ok-push-3-clause-classes : goal.returns-in_ok-push-3-clause-classes
returns-in_ok-push-3-clause-classes c = λ links h.
    let none = new_key eq-value.it c.args.wire c.args.self.now.wires.keys c.in_ok-number.is_new c.in_ok-number.ensures.added c.if-is_new.true in
    made_classes eq-value.it laws-law links c.args.wire c.args.self.now.wires.keys c.insert_full.new.self.keys c.in_ok-number.number c.args.self.now.classes.items c.push.new.self.items c.args.self.now.members.items
    none c.in_ok-number.ensures.keys c.in_ok-number.ensures.index c.in_ok-push.ensures.items c.requires.members h

pub returns-in_ok-push-3-clause-others : goal.returns-in_ok-push-3-clause-others
returns-in_ok-push-3-clause-others c = kept_keys eq-value.it c.args.wire c.args.self.now.wires.keys c.insert_full.new.self.keys c.in_ok-number.ensures.keys
