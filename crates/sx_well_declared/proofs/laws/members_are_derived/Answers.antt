use Rattle.sx_well_declared.proofs.Members.{member-told, member-derived, members-told, members-derived}
use Rattle.sx_well_declared.proofs.laws.members_are_derived.Goals as goal

pub returns : goal.returns
returns c =
    record {
      sound = λ d names stops t b m w v o h. member-told d names stops t b m w o v h;
      complete = λ d names stops t b m w v o h. member-derived d names stops t b m w o v h;
      all_sound = λ d names stops t b ms before ps w v h. members-told d names stops t b ms before w ps v h;
      all_complete = λ d names stops t b ms before ps w v h. members-derived d names stops t b ms before w ps v h;
    }
