use Rattle.sim_world.proofs.MarkLaws.{sweep_begins, mark_goes_on, claim_goes_on, read_goes_on, file_goes_on, owner_found, guest_found}
use Rattle.sim_world.proofs.publication_laws.sweeps_find_each_known_item.Goals as goal

pub returns : goal.returns
returns c = record {
  begins = sweep_begins;
  marks = λ s l p n m found is sound. mark_goes_on s sound l p n m found is;
  claims = λ s l p n m j h found v sound is. claim_goes_on s sound l p n m found is j h v;
  reads = λ s l p n m j h r c from found v sound is. read_goes_on s sound l p n m found is j h r c from v;
  files = λ s l p n m j h c k x found v sound is. file_goes_on s sound l p n m found is j h c k x v;
  owner = λ s l p n m x found is sound done. owner_found s sound l p n m found is done x;
  guests = λ s l p n m j x found v is sound done at. guest_found s sound l p n m found is done j v at x;
}
