mod PairSets
