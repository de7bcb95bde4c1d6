-- A pass and news may go to another thread, and a front may be shared, where the value may go to another thread.
use denote.RattleType.{RattleType}
use denote.Param.Send.{IsSend, IsSync, AllSend, AllSync, view_send, view_sync, struct_send, struct_sync, recorded_send, recorded_sync, sendable}
use denote.Struct.Declared.{shape}
use Rattle.std.proofs.Crossing.{crosses, send, sync, frees}
use Rattle.std.specs.contracts.alloc.Global as Heap
use Rattle.std.specs.contracts.impls.GlobalAllocator.TheImpl as HeapImpl
use Rattle.std.specs.contracts.option.Option as Option
use Rattle.std.proofs.option.Option.TheSendSync as OptionSent
use Rattle.atomic_table.proofs.shared.Seat.TheSendSync as SeatSent
use Rattle.atomic_table.proofs.owned.Table.TheSendSync as TableSent
use Rattle.batch_front.specs.declared.chronicle.Chronicle as Chronicle
use Rattle.batch_front.specs.contracts.rule.Opening as Opening
use Rattle.batch_front.specs.contracts.rule.Rule as Rule
use Rattle.batch_front.specs.contracts.rule.RuleTableRuleOptionViewSiteOpening.TheImpl as RuleImpl
use Rattle.batch_front.specs.contracts.rule.View as View
use Rattle.batch_front.specs.contracts.pass.Pass as Pass
use Rattle.batch_front.specs.contracts.pass.Pass.TheInside as PassInside
use Rattle.batch_front.specs.contracts.pass.News as News
use Rattle.batch_front.specs.contracts.pass.News.TheInside as NewsInside
use Rattle.batch_front.specs.contracts.front.Front as Front
use Rattle.batch_front.specs.contracts.front.Front.TheInside as FrontInside

module _ (V S : RattleType) (g : Chronicle.Ghosts V.Denot S.Denot) (s : IsSend V) where
  pass_fields : AllSend (shape (PassInside.the_type V S g)).fields
  pass_fields = (SeatSent.the_send (Option.the_row V) (View.the_row S) (OptionSent.the_send V s), (search crosses, (search sendable, (search sendable, tt))))

  -- a pass may go to another thread
  pub pass_send : IsSend (Pass.the_row V S g)
  pass_send = view_send (PassInside.the_row V S g) _ _ _ _ (recorded_send (PassInside.the_field V S g).row _ _ (PassInside.the_type V S g).to_one (struct_send (shape (PassInside.the_type V S g)) pass_fields))

  news_fields : AllSend (shape (NewsInside.the_type V S g)).fields
  news_fields = (SeatSent.the_send (Option.the_row V) (View.the_row S) (OptionSent.the_send V s), (search crosses, (search sendable, tt)))

  -- and so may news
  pub news_send : IsSend (News.the_row V S g)
  news_send = view_send (NewsInside.the_row V S g) _ _ _ _ (recorded_send (NewsInside.the_field V S g).row _ _ (NewsInside.the_type V S g).to_one (struct_send (shape (NewsInside.the_type V S g)) news_fields))

  opening_sync : IsSync (Opening.the_field V).row
  opening_sync = struct_sync (shape (Opening.the_type V)) (search crosses, (search sendable, tt))

  front_fields : AllSync (shape (FrontInside.the_type V S g)).fields
  front_fields = (TableSent.the_field_sync (Option.the_row V) (View.the_row S) (Opening.the_row V) (Rule.the_row V) Heap.the_row (RuleImpl.ghosts V S g RuleImpl.no_dict RuleImpl.no_dict) HeapImpl.ghosts (OptionSent.the_send V s) send sync frees, (opening_sync, tt))

  -- a front may be shared by threads
  pub front_sync : IsSync (Front.the_row V S g)
  front_sync = view_sync (FrontInside.the_row V S g) _ _ _ _ (recorded_sync (FrontInside.the_field V S g).row _ _ (FrontInside.the_type V S g).to_one (struct_sync (shape (FrontInside.the_type V S g)) front_fields))
