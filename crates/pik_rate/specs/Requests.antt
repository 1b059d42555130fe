-- What the structs of a rate request stand for. Document 01, 'The rate request on the wire'.
use Rattle.std.specs.Prelude.{ℕ, List, [], ◌∷◌}
use Rattle.rate.specs.declared.Request as inner
use Rattle.rate_reader.specs.Reading.{Read}
use Rattle.rate.specs.Writing as answers
use Rattle.pik_rate.specs.declared.requests.Address.{Address}
use Rattle.pik_rate.specs.declared.requests.Request.{Request}
use Rattle.pik_rate.specs.declared.requests.Reading.{Reading}
use Rattle.pik_rate.specs.declared.requests.Written.{Written}

-- the six octets of an address
abbrev pub octets_of : Address → List ℕ
octets_of a = a.first ∷ a.second ∷ a.third ∷ a.fourth ∷ a.fifth ∷ a.sixth ∷ []

abbrev pub request_of : Request → inner.Request
request_of q =
    record {
      destination = octets_of q.destination;
      source = octets_of q.source;
      opcode = q.opcode;
      bands = q.bands;
      pe1 = q.pe1;
      rank1 = q.rank1;
      pe2 = q.pe2;
      rank2 = q.rank2;
    }

abbrev pub reading_of : Reading → Read
reading_of r =
    record {
      number = r.number;
      request = request_of r.request;
      addresses = r.addresses;
      start = r.start;
      extent = r.extent;
    }

abbrev pub written_of : Written → answers.Written
written_of w = record { number = w.number; count = w.count }
