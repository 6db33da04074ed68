mod NothingRan
