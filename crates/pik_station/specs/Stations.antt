-- What a station's structs of plain words stand for. Document 01, 'Capability sets'.
use Rattle.capability.specs.declared.Station as inner
use Rattle.capability.specs.declared.Frame as inner-frame
use Rattle.capability.specs.Answers.{Outcome, order_number}
use Rattle.pik_station.specs.declared.stations.Station.{Station}
use Rattle.pik_station.specs.declared.stations.Frame.{Frame}
use Rattle.pik_station.specs.declared.stations.StationAnswer.{StationAnswer}

-- the station that six words are
abbrev pub station_of : Station → inner.Station
station_of s = record {
  default = s.default_set;
  tx = record { new = s.new_tx; previous = s.previous_tx; oldest = s.oldest_tx };
  rx = record { new = s.new_rx; previous = s.previous_rx };
}

-- the six words of a station
abbrev pub station_for : inner.Station → Station
station_for s = record {
  default_set = s.default;
  new_tx = s.tx.new;
  previous_tx = s.tx.previous;
  oldest_tx = s.tx.oldest;
  new_rx = s.rx.new;
  previous_rx = s.rx.previous;
}

abbrev pub frame_of : Frame → inner-frame.Frame
frame_of f = record { oldest = f.oldest_tx; current = f.current_tx; heard = f.current_rx }

abbrev pub frame_for : inner-frame.Frame → Frame
frame_for f = record { oldest_tx = f.oldest; current_tx = f.current; current_rx = f.heard }

-- what the host is told of an outcome: all of it
abbrev pub answer_for : Outcome → StationAnswer
answer_for o = record {
  number = o.number;
  sends = o.sends;
  timer = order_number o.timer;
  reported = o.reported;
  station = station_for o.station;
  frame = frame_for o.frame;
}
